-- Stepping stones: the text of a unit, record by record.
use Rattle.std.specs.Prelude.{ℕ, ◌≡◌, List, [], ◌∷◌, ◌++◌, length, drop}
use Rattle.xliff.specs.Bytes.{gather}
use Rattle.xliff.specs.Item.{Item}
use Rattle.xliff.specs.Unit.{Head, segment, ignorable}
use Rattle.xliff.specs.Encode as encode
use Rattle.xliff.specs.Encode.{opening, closing, part_head, target_head, text_run, inline, ill_text, broken, record_bytes}
use Rattle.places.specs.Offsets.{At}
use Rattle.table.specs.Meaning.{record_meaning, meaning, body}
use Rattle.table.specs.declared.Record.{Record}
use Rattle.table.specs.declared.Record.TheVariants.{Unit as UnitStart, UnitEnd, Segment, Ignorable, Target, Text, Inline}
use Rattle.table.specs.declared.Read.{Read}
use Rattle.table.specs.declared.Read.TheVariants.{Good, Ill, Broken}
use Rattle.draft.specs.declared.Draft.{Draft}
use Rattle.draft.specs.Drafts.{Wrote}
use Rattle.xml.specs.Words.{'unit', 'segment', 'ignorable', 'source', 'target', 'id', 'canResegment', 'order'}
use Rattle.xml.specs.Attributes.{yes_no}
use Rattle.xml.specs.Write.{opening_tag, closing_tag, number_attribute, word_attribute, escaped, item_text, head_name, head_attributes}
use Rattle.xml_items.specs.Items.{FourDigits}
use Rattle.xml_nesting.specs.Nesting.{first_content}
use Rattle.xml_writer.specs.declared.Open.{Open}
use Rattle.xml_writer.specs.declared.Open.TheVariants.{Between, SegmentSource, SegmentTarget, IgnorableSource, IgnorableTarget}

-- the end tags of the part that is open
unfoldable pub part_end : Open → List ℕ
part_end Between = []
part_end SegmentSource = closing_tag 'source' ++ closing_tag 'segment'
part_end SegmentTarget = closing_tag 'target' ++ closing_tag 'segment'
part_end IgnorableSource = closing_tag 'source' ++ closing_tag 'ignorable'
part_end IgnorableTarget = closing_tag 'target' ++ closing_tag 'ignorable'

-- behind the head of a part its source is open, behind TG its target
abbrev pub source_open : Head → Open
source_open (segment f) = SegmentSource
source_open (ignorable i) = IgnorableSource

abbrev pub target_open : Open → Open
target_open Between = Between
target_open SegmentSource = SegmentTarget
target_open SegmentTarget = SegmentTarget
target_open IgnorableSource = IgnorableTarget
target_open IgnorableTarget = IgnorableTarget

unfoldable pub open_behind : Open → encode.Record → Open
open_behind o (opening u) = Between
open_behind o closing = Between
open_behind o (part_head h) = source_open h
open_behind o (target_head q) = target_open o
open_behind o (text_run cs) = o
open_behind o (inline x) = o
open_behind o ill_text = o
open_behind o (broken b) = o

-- the code's cases
abbrev pub open_in : Open → Record → Open
open_in o (UnitStart u) = Between
open_in o UnitEnd = Between
open_in o (Segment f) = SegmentSource
open_in o (Ignorable i) = IgnorableSource
open_in o (Target q) = target_open o
open_in o Text = o
open_in o (Inline i) = o

abbrev pub open_read : Open → Read → Open
open_read o (Good x w) = open_in o x
open_read o Ill = o
open_read o (Broken b) = o

-- what a record gives, with the records behind it
abbrev pub unit_start : ℕ → List ℕ
unit_start c = opening_tag 'unit' (number_attribute 'id' 1 ++ word_attribute 'canResegment' yes_no c)

abbrev pub part_start : Open → Head → List ℕ
part_start o h = part_end o ++ (opening_tag (head_name h) (head_attributes h) ++ opening_tag 'source' [])

abbrev pub target_start : ℕ → List ℕ
target_start q = closing_tag 'source' ++ opening_tag 'target' (number_attribute 'order' q)

unfoldable pub record_text : Open → encode.Record → List encode.Record → List ℕ
record_text o (opening u) rs = unit_start u.can_resegment
record_text o closing rs = part_end o ++ closing_tag 'unit'
record_text o (part_head h) rs = part_start o h
record_text o (target_head q) rs = target_start q
record_text o (text_run cs) rs = gather escaped cs
record_text o (inline x) rs = item_text x (first_content rs)
record_text o ill_text rs = []
record_text o (broken b) rs = []

unfoldable pub records_text : Open → List encode.Record → List ℕ
records_text o [] = []
records_text o (r ∷ rs) = record_text o r rs ++ records_text (open_behind o r) rs

-- a record whose characters have four hexadecimal digits
abbrev pub SmallRecord : encode.Record → Type 0
SmallRecord (opening u) = Unit {0}
SmallRecord closing = Unit {0}
SmallRecord (part_head h) = Unit {0}
SmallRecord (target_head q) = Unit {0}
SmallRecord (text_run cs) = Unit {0}
SmallRecord (inline x) = FourDigits x
SmallRecord ill_text = Unit {0}
SmallRecord (broken b) = Unit {0}

-- a record stands at an offset, so wide; it is written
abbrev pub Stands : List ℕ → ℕ → encode.Record → ℕ → Type 0
Stands t at r w = (rs : List encode.Record) × At t at (r ∷ rs) × SmallRecord r × (w ≡ length (record_bytes r))

abbrev pub WroteRecord : List ℕ → ℕ → Open → encode.Record → Draft → Draft → Type 0
WroteRecord t at o r draft draft' =
    (rs : List encode.Record) → At t at (r ∷ rs) → Wrote (record_text o r rs) draft draft'

-- an inline record is written, whose content goes on at an offset; a text is written
abbrev pub WroteInline : List ℕ → ℕ → Item → Draft → Draft → Type 0
WroteInline t next x draft draft' =
    (rs : List encode.Record) → At t next rs → Wrote (item_text x (first_content rs)) draft draft'

abbrev pub TextAt : List ℕ → ℕ → ℕ → Type 0
TextAt t at w =
    (cs : List ℕ) × (rs : List encode.Record) × At t at (text_run cs ∷ rs) × (w ≡ length (record_bytes (text_run cs)))

abbrev pub WroteText : List ℕ → ℕ → ℕ → Draft → Draft → Type 0
WroteText t at w draft draft' =
    (cs : List ℕ) (rs : List encode.Record) → At t at (text_run cs ∷ rs) → w ≡ length (record_bytes (text_run cs))
    → Wrote (gather escaped cs) draft draft'

-- the record that was read there
abbrev pub found : List ℕ → ℕ → Record → encode.Record
found t at x = record_meaning (body (drop at t)) x

abbrev pub read_there : List ℕ → ℕ → Read → encode.Record
read_there t at r = meaning (body (drop at t)) r
