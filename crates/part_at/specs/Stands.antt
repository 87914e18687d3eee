-- Where a part stands in a table.
use Rattle.places.specs.Offsets.{At}
use Rattle.std.specs.Prelude.{ℕ, ◌+◌, ◌-◌, ◌≤◌, ◌≡◌, true, false, List, [], ◌∷◌, ◌++◌, length, take, drop, Option, Some, None}
use Rattle.std.proofs.Math.Option.{none}
use Rattle.xliff.specs.Bytes.{gather}
use Rattle.xliff.specs.Unit.{Head, Target, no_target, target, Part}
use Rattle.xliff.specs.Encode.{Record, opening, closing, part_head, target_head, record_bytes, head_bytes, target_records, part_records, spell, content_bytes}
use Rattle.xliff.specs.Parse.{UN, TG, size_of, unit}
use Rattle.xliff.specs.Focus.{Focus, nowhere, here, focus}
use Rattle.xliff.specs.Check.{table_refusal}
use Rattle.heads.specs.Heads.{is_segment}
use Rattle.part_at.specs.declared.PartPlace.{PartPlace}

-- a part or the end of the unit comes first
pub data PartOrEnd : List Record → Type 0 where
  part_next : {h : Head} {rs : List Record} → PartOrEnd (part_head h ∷ rs)
  end_next : {rs : List Record} → PartOrEnd (closing ∷ rs)

-- the order of a target, if there is one
abbrev pub target_order : Target → Option ℕ
target_order no_target = None
target_order (target q xs) = Some q

-- at an offset stands a target, or none, then the next part or the end
abbrev pub TargetAt : List ℕ → ℕ → Type 0
TargetAt t at = (g : Target) × (rest : List Record) × At t at (target_records g ++ rest) × PartOrEnd rest

pub record TargetSpan (at : ℕ) (g : Target) (place : PartPlace) : Type 0 where
  pub ends : place.end ≡ at + length (spell (target_records g))
  pub order : place.order ≡ target_order g

abbrev pub TargetSpans : List ℕ → ℕ → PartPlace → Type 0
TargetSpans t at place = (g : Target) (rest : List Record) → At t at (target_records g ++ rest) → PartOrEnd rest → TargetSpan at g place

-- at an offset stands a part, then the next or the end
abbrev pub PartFrom : List ℕ → ℕ → Type 0
PartFrom t at = (p : Part) × (rest : List Record) × At t at (part_records p ++ rest) × PartOrEnd rest

pub record PartSpan (at : ℕ) (p : Part) (place : PartPlace) : Type 0 where
  pub head : place.head ≡ at
  pub source : place.source ≡ at + length (head_bytes p.head)
  pub target : place.target ≡ place.source + length (content_bytes p.source)
  pub kind : place.segment ≡ is_segment p.head
  pub rest : TargetSpan place.target p.target place

abbrev pub PartSpans : List ℕ → ℕ → PartPlace → Type 0
PartSpans t at place = (p : Part) (rest : List Record) → At t at (part_records p ++ rest) → PartOrEnd rest → PartSpan at p place

-- from one offset to another the table has these bytes
pub record Slice (t : List ℕ) (from to : ℕ) (bytes : List ℕ) : Type 0 where
  pub ordered : from ≤ to
  pub within : to ≤ length t
  pub is : take (to - from) (drop from t) ≡ bytes

abbrev pub TargetStands : List ℕ → PartPlace → Target → Type 0
TargetStands t place no_target = (place.order ≡ None) × (place.end ≡ place.target)
TargetStands t place (target q xs) =
    (place.order ≡ Some q)
    × Slice t place.target (place.target + size_of TG []) (record_bytes (target_head q))
    × Slice t (place.target + size_of TG []) place.end (content_bytes xs)

-- the part p, behind the parts b and before the parts a, has these offsets
pub record PartStands (t : List ℕ) (b : List Part) (p : Part) (a : List Part) (place : PartPlace) : Type 0 where
  pub all : (unit t).parts ≡ b ++ (p ∷ a)
  pub offset : place.head ≡ size_of UN [] + length (spell (gather part_records b))
  pub before : take place.head t ≡ record_bytes (opening (unit t).opening) ++ spell (gather part_records b)
  pub head : Slice t place.head place.source (head_bytes p.head)
  pub source : Slice t place.source place.target (content_bytes p.source)
  pub target : TargetStands t place p.target
  pub kind : place.segment ≡ is_segment p.head
  pub whole : Slice t place.head place.end (spell (part_records p))
  pub behind : drop place.end t ≡ spell (gather part_records a) ++ record_bytes closing
  pub records : At t place.head (part_records p ++ (gather part_records a ++ (closing ∷ [])))

abbrev pub Standing : List ℕ → PartPlace → Type 0
Standing t place = (b : List Part) × (p : Part) × (a : List Part) × PartStands t b p a place

-- the check passes the table, and at the place stands a part; part number n
abbrev pub Checked : List ℕ → PartPlace → Type 0
Checked t place = (table_refusal t ≡ none) × Standing t place

abbrev pub CheckedPart : List ℕ → ℕ → PartPlace → Type 0
CheckedPart t n place =
    (table_refusal t ≡ none) × ((b : List Part) × (p : Part) × (a : List Part) × (focus (unit t).parts n ≡ here b p a) × PartStands t b p a place)

-- a part is found exactly where there is one
abbrev pub PartFound : List ℕ → Focus → Option PartPlace → Type 0
PartFound t f (Some place) = (b : List Part) × (p : Part) × (a : List Part) × (f ≡ here b p a) × PartStands t b p a place
PartFound t f None = f ≡ nowhere
