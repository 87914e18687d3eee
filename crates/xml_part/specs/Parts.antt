-- What is read of a part outside of its contents. Stepping stones.
use Rattle.std.specs.Prelude.{ℕ, suc, ◌≤◌, ◌≡◌, Bool, true, List, [], ◌∷◌, length, Result, Ok, Err, Option as RustOption, Some, None}
use Rattle.std.proofs.Math.Option.{some}
use Rattle.xliff.specs.Bytes.{equal}
use Rattle.xliff.specs.Unit as xliff
use Rattle.xliff.specs.Encode.{Record, part_head}
use Rattle.xliff.specs.Good.{part_heads}
use Rattle.xml.specs.Tokens.{Attribute, Token, finish, cut_tag}
use Rattle.xml.specs.Elements.{Due, part_due, source_due, target_due, part_end_due, Side, outside, in_content, blame, finished, cut_short, bad, behind, elements}
use Rattle.table_builder.specs.declared.TableBuilder.{TableBuilder}
use Rattle.xml_piece.specs.Pieces.{rest_at, Ahead}
use Rattle.xml_heads.specs.declared.Head.{Head}
use Rattle.xml_heads.specs.Meanings.{head_meaning}
use Rattle.xml_passages.specs.Passages.{Alike, OuterBlames, Leads}
use Rattle.xml_records.specs.Collecting.{Collected, Collects}
use Rattle.xml_element.specs.declared.Blamed.{Blamed}
use Rattle.xml_element.specs.Opens.{TagIn, start_tokens, end_tokens, EndTagIn, after_tag}
use Rattle.xml_part.specs.declared.Outer.{Outer}
use Rattle.xml_part.specs.declared.Outer.TheVariants.{Start, Close, Cut, End}
use Rattle.xml_part.specs.declared.AnyTag.{AnyTag}
use Rattle.xml_part.specs.declared.AnyTag.TheVariants.{Start as AStart, Close as AnEnd}

-- behind blanks and comments
abbrev pub OuterRead : List ℕ → ℕ → Result Outer Blamed → Type 0
OuterRead text start (Ok (Start tag)) =
    Ahead text start tag.name.upto × TagIn text tag × Alike (rest_at text start) (start_tokens text tag)
OuterRead text start (Ok (Close end)) = EndTagIn text start end × Alike (rest_at text start) (end_tokens text end)
OuterRead text start (Ok (Cut place)) = Alike (rest_at text start) (cut_tag place (length text) ∷ [])
OuterRead text start (Ok (End p)) = Alike (rest_at text start) (finish p ∷ [])
OuterRead text start (Err blamed) = OuterBlames (rest_at text start) blamed.place

-- a tag is due: the text's end is at fault, before a tag and within it
pub record TagDue (text : List ℕ) (d : Due) : Type 0 where
  pub cut : (place : ℕ) → cut_short d place (length text) ≡ blame (length text)
  pub over : (place : ℕ) → finished d place ≡ blame place

-- the place at fault, wherever a tag is due
unfoldable pub Missing : List ℕ → List Token → ℕ → Type 0
Missing text a p = (d : Due) → TagDue text d → elements (outside d) a ≡ bad p

abbrev pub TagRead : List ℕ → ℕ → Result AnyTag Blamed → Type 0
TagRead text start (Ok (AStart tag)) =
    Ahead text start tag.name.upto × TagIn text tag × Alike (rest_at text start) (start_tokens text tag)
TagRead text start (Ok (AnEnd end)) = EndTagIn text start end × Alike (rest_at text start) (end_tokens text end)
TagRead text start (Err blamed) = Missing text (rest_at text start) blamed.place

-- records are collected of which so many are heads of parts
pub record CollectingAt (parts : ℕ) (builder : TableBuilder) : Type 0 where
  pub before : List Record
  pub counted : part_heads before ≡ parts
  pub collected : Collected builder before

-- a target's order, or its part's position where it has none
abbrev pub order_or : RustOption ℕ → ℕ → ℕ
order_or (Some q) position = q
order_or None position = position

-- the head of a part is put
abbrev pub HeadPut : Head → TableBuilder → TableBuilder → Type 0
HeadPut h builder builder' =
    (x : xliff.Head) → head_meaning (Some h) ≡ some x → Collects (part_head x ∷ []) builder builder'

-- a content and the end tag of its source or target, from behind the start tag on, whose name is the side's
pub record SideOn (text : List ℕ) (side : Side) (a : List Token) (builder : TableBuilder) (next : ℕ)
    (builder' : TableBuilder) : Type 0 where
  pub records : List Record
  pub no_part : part_heads records ≡ 0
  pub passage : elements (in_content side []) a ≡ behind records (elements (outside side.behind) (rest_at text next))
  pub collects : Collects records builder builder'

abbrev pub SideSteps : List ℕ → ℕ → Side → List Token → TableBuilder → TableBuilder → Result ℕ Blamed → Type 0
SideSteps text from side a builder builder' (Ok next) =
    (from ≤ next) × (next ≤ length text) × SideOn text side a builder next builder'
SideSteps text from side a builder builder' (Err blamed) = elements (in_content side []) a ≡ bad blamed.place

unfoldable pub SideRead : List ℕ → ℕ → Bool → List ℕ → TableBuilder → TableBuilder → Result ℕ Blamed → Type 0
SideRead text next short word builder builder' r =
    (side : Side) (place : ℕ) (name : List ℕ) (ats : List Attribute) → side.name ≡ word → equal name word ≡ true
    → SideSteps text next side (after_tag text short place name ats next) builder builder' r

-- From what is due to what is due then, with the records between, of which so many are heads of parts: behind it, or a
-- place at fault
pub record Passed (d : Due) (a : List Token) (heads : ℕ) (builder : TableBuilder) (d' : Due) (b : List Token)
    (builder' : TableBuilder) : Type 0 where
  pub records : List Record
  pub heads_are : part_heads records ≡ heads
  pub leads : Leads d a records d' b
  pub collects : Collects records builder builder'

abbrev pub Steps : List ℕ → ℕ → Due → List Token → ℕ → Due → TableBuilder → TableBuilder → Result ℕ Blamed → Type 0
Steps text from d a heads d' builder builder' (Ok next) =
    Ahead text from next × Passed d a heads builder d' (rest_at text next) builder'
Steps text from d a heads d' builder builder' (Err blamed) = elements (outside d) a ≡ bad blamed.place

-- a source, whatever its part is; a target of the part at a position; the head of a part, whatever stands before
unfoldable pub SourceSteps : List ℕ → ℕ → List Token → TableBuilder → TableBuilder → Result ℕ Blamed → Type 0
SourceSteps text from a builder builder' r =
    (k : ℕ) (p : List ℕ) → Steps text from (source_due k p) a 0 (target_due k p) builder builder' r

unfoldable pub TargetSteps : List ℕ → ℕ → ℕ → List Token → TableBuilder → TableBuilder → Result ℕ Blamed → Type 0
TargetSteps text from position a builder builder' r =
    (p : List ℕ) → Steps text from (target_due position p) a 0 (part_end_due position p) builder builder' r

unfoldable pub HeadSteps : List ℕ → ℕ → List ℕ → List Token → TableBuilder → TableBuilder → Result ℕ Blamed → Type 0
HeadSteps text from name a builder builder' r =
    (k : ℕ) → Steps text from (part_due k) a 1 (source_due (suc k) name) builder builder' r

-- the end tag of a part: no record
abbrev pub EndSteps : List ℕ → ℕ → Due → Due → Result ℕ Blamed → Type 0
EndSteps text start d d' (Ok next) = Ahead text start next × Leads d (rest_at text start) [] d' (rest_at text next)
EndSteps text start d d' (Err blamed) = elements (outside d) (rest_at text start) ≡ bad blamed.place

unfoldable pub PartEnds : List ℕ → ℕ → List ℕ → Result ℕ Blamed → Type 0
PartEnds text start name r = (k : ℕ) → EndSteps text start (part_end_due k name) (part_due k) r
