-- The order of a target that is set.
use Rattle.std.specs.Prelude.{ℕ, ◌≡◌, List}
use Rattle.xliff.specs.Unit.{Part}
use Rattle.xliff.specs.Parse.{unit}
use Rattle.xliff.specs.SetTarget.{new_order}
use Rattle.part_at.specs.declared.PartPlace.{PartPlace}
use Rattle.part_at.specs.Stands.{PartStands}

-- "Order: the old one, else the part's position if unused, else the lowest unused."
abbrev pub NewOrderIs : List ℕ → ℕ → PartPlace → ℕ → Type 0
NewOrderIs t n place r = (b : List Part) (p : Part) (a : List Part) → PartStands t b p a place → r ≡ new_order (unit t).parts n p.target
