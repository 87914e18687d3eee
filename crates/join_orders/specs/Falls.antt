-- Orders that fall.
use Rattle.std.specs.Prelude.{ℕ, ◌≡◌, List}
use Rattle.xliff.specs.Unit.{Part}
use Rattle.xliff.specs.Parse.{unit}
use Rattle.xliff.specs.Join.{lower_above, join_order}
use Rattle.part_at.specs.declared.PartPlace.{PartPlace}
use Rattle.part_at.specs.Stands.{PartStands}

-- orders above o fall by 1 where the parts at x and y are joined
abbrev pub FallsAbove : List ℕ → PartPlace → PartPlace → ℕ → Type 0
FallsAbove t x y o =
    (b : List Part) (p : Part) (a : List Part) (c : List Part) (q : Part) (d : List Part) → PartStands t b p a x → PartStands t c q d y
    → (r : ℕ) → lower_above o r ≡ join_order (unit t).parts p.target q.target r
