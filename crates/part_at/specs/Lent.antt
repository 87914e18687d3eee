-- The contents of a part that stands in a table, as slices of it.
use Rattle.std.specs.Prelude.{ℕ, List}
use Rattle.xliff.specs.Unit.{Part, target_items}
use Rattle.walk.specs.Kept.{Holds}
use Rattle.part_at.specs.declared.PartPlace.{PartPlace}
use Rattle.part_at.specs.Stands.{PartStands}

-- the bytes c hold the source of the part at the place
abbrev pub SourceHeld : List ℕ → PartPlace → List ℕ → Type 0
SourceHeld t place c = (b : List Part) (p : Part) (a : List Part) → PartStands t b p a place → Holds c p.source

-- and its target's content, which is empty without one
abbrev pub TargetHeld : List ℕ → PartPlace → List ℕ → Type 0
TargetHeld t place c = (b : List Part) (p : Part) (a : List Part) → PartStands t b p a place → Holds c (target_items p.target)
