-- What the program tells of a head by its attributes. Stepping stones.
use Rattle.std.specs.Prelude.{ℕ, List, Option as RustOption, Some, None}
use Rattle.std.proofs.Math.Option.{Option, none, some}
use Rattle.xliff.specs.Unit as xliff
use Rattle.xliff.specs.Unit.{segment, ignorable}
use Rattle.xml.specs.Elements.{target_order}
use Rattle.table.specs.Meaning.{segment_meaning}
use Rattle.xml_slots.specs.Slots.{ByAttributes}
use Rattle.xml_heads.specs.declared.Head.{Head}
use Rattle.xml_heads.specs.declared.Head.TheVariants.{Segment, Ignorable}

-- the canResegment of a unit, if it is good
abbrev pub unit_meaning : RustOption ℕ → Option xliff.Opening
unit_meaning (Some c) = some (record { can_resegment = c })
unit_meaning None = none

-- the head of a part, if it is good
abbrev pub head_meaning : RustOption Head → Option xliff.Head
head_meaning (Some (Segment f)) = some (segment (segment_meaning f))
head_meaning (Some (Ignorable i)) = some (ignorable i)
head_meaning None = none

-- the order of a target of the part at a position: its own, or the position where there is none
abbrev pub order_meaning : ℕ → RustOption (RustOption ℕ) → Option ℕ
order_meaning position (Some (Some q)) = some q
order_meaning position (Some None) = some position
order_meaning position None = none

abbrev pub OrderRead : List ℕ → ℕ → RustOption (RustOption ℕ) → Type 0
OrderRead slots count r = (position : ℕ) → ByAttributes slots count (target_order position) (order_meaning position r)
