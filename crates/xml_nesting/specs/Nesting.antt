-- Stepping stones: the pc and mrk that are open, record by record.
use Rattle.std.specs.Prelude.{ℕ, ◌+◌, ◌-◌, ◌≡◌, Bool, true, false, ◌||◌, cond, List, [], ◌∷◌, ◌++◌, map, eqb, ltb}
use Rattle.xliff.specs.Item as spec
use Rattle.xliff.specs.Item.{Content, text, is_form_P, is_start_half, fields}
use Rattle.xliff.specs.Encode as encode
use Rattle.xliff.specs.Encode.{opening, closing, part_head, target_head, text_run, inline, ill_text, broken}
use Rattle.places.specs.Offsets.{At}
use Rattle.table.specs.declared.Form.{Form}
use Rattle.table.specs.declared.Form.TheVariants.{P, S}
use Rattle.table.specs.declared.Half.{Half}
use Rattle.table.specs.declared.Half.TheVariants.{Start, End}
use Rattle.table.specs.declared.Item.{Item}
use Rattle.table.specs.declared.Item.TheVariants.{Character, Standalone, Isolated, Pair, AnnotationStart, AnnotationEnd}
use Rattle.table.specs.declared.Record.{Record}
use Rattle.table.specs.declared.Record.TheVariants.{Unit as UnitStart, UnitEnd, Segment, Ignorable, Target, Text, Inline}
use Rattle.table.specs.declared.Read.{Read}
use Rattle.table.specs.declared.Read.TheVariants.{Good, Ill, Broken}
use Rattle.xml.specs.Elements.{most_depth}
use Rattle.xml.specs.Write.{pending, first_data, one_less}
use Rattle.xml_nesting.specs.declared.Step.{Step}
use Rattle.xml_nesting.specs.declared.Step.TheVariants.{Opens, Closes, Stays, Ends}

-- The code's cases
abbrev pub start_step : Form → Step
start_step P = Opens
start_step S = Stays

abbrev pub end_step : Form → ℕ → Step
end_step P d = Closes d
end_step S d = Stays

abbrev pub pair_step : Form → Half → ℕ → Step
pair_step w Start d = start_step w
pair_step w End d = end_step w d

abbrev pub step_of_inline : Item → Step
step_of_inline (Character c) = Stays
step_of_inline (Standalone f) = Stays
step_of_inline (Isolated h f) = Stays
step_of_inline (Pair w h f) = pair_step w h f.data_ref
step_of_inline (AnnotationStart w i l) = start_step w
step_of_inline (AnnotationEnd w i) = end_step w 0

abbrev pub record_step : Record → Step
record_step (UnitStart c) = Ends
record_step UnitEnd = Ends
record_step (Segment f) = Ends
record_step (Ignorable i) = Ends
record_step (Target q) = Ends
record_step Text = Stays
record_step (Inline i) = step_of_inline i

abbrev pub read_step : Read → Step
read_step (Good x w) = record_step x
read_step Ill = Stays
read_step (Broken b) = Ends

-- what they are by the specification's item and record
unfoldable pub step_of_item : spec.Item → Step
step_of_item x = cond (is_form_P x) (cond (is_start_half x) Opens (Closes (fields x).data_ref)) Stays

unfoldable pub step_of : encode.Record → Step
step_of (opening c) = Ends
step_of closing = Ends
step_of (part_head h) = Ends
step_of (target_head q) = Ends
step_of (text_run cs) = Stays
step_of (inline x) = step_of_item x
step_of ill_text = Stays
step_of (broken b) = Ends

-- it opens one
abbrev pub is_opening : Step → Bool
is_opening Opens = true
is_opening (Closes d) = false
is_opening Stays = false
is_opening Ends = false

-- how many are open behind a record
abbrev pub depth_after : ℕ → Step → ℕ
depth_after n Opens = n + 1
depth_after n (Closes d) = one_less n
depth_after n Stays = n
depth_after n Ends = 0

-- deeper than 32 somewhere in these records
unfoldable pub records_deep : ℕ → List encode.Record → Bool
records_deep n [] = false
records_deep n (r ∷ rs) = let m : ℕ = depth_after n (step_of r) in ltb most_depth m || records_deep m rs

-- the dataRef of the end that is looked for, or how many are still open before it
pub data Ending : Type 0 where
  Found : ℕ → Ending
  Open : ℕ → Ending

-- what stands behind a start, if n are open there
abbrev pub closing_at : ℕ → ℕ → Ending
closing_at n d = cond (eqb n 0) (Found d) (Open (n - 1))

abbrev pub ending_behind : ℕ → Step → Ending
ending_behind n Opens = Open (n + 1)
ending_behind n (Closes d) = closing_at n d
ending_behind n Stays = Open n
ending_behind n Ends = Found 0

-- the items of the content that the records begin with
unfoldable pub first_content : List encode.Record → Content
first_content [] = []
first_content (opening c ∷ rs) = []
first_content (closing ∷ rs) = []
first_content (part_head h ∷ rs) = []
first_content (target_head q ∷ rs) = []
first_content (text_run cs ∷ rs) = map text cs ++ first_content rs
first_content (inline x ∷ rs) = x ∷ first_content rs
first_content (ill_text ∷ rs) = first_content rs
first_content (broken b ∷ rs) = []

-- the dataRef of the end of a pc whose start stands directly before these records
abbrev pub end_of : List encode.Record → ℕ
end_of rs = first_data (pending (first_content rs))

-- records stand at an offset, and the end of a pc is looked for in them
abbrev pub RecordsAt : List ℕ → ℕ → Type 0
RecordsAt t at = (rs : List encode.Record) × At t at rs

abbrev pub EndsWith : List ℕ → ℕ → ℕ → Type 0
EndsWith t at r = (rs : List encode.Record) → At t at rs → r ≡ end_of rs
