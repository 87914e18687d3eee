-- What is asked of a part that stands in a table, and answered.
use Rattle.std.specs.Prelude.{ℕ, ◌≡◌, Bool, false, cond, List, eqb}
use Rattle.xliff.specs.Unit.{Part, is_closed}
use Rattle.xliff.specs.Parse.{unit}
use Rattle.xliff.specs.Join.{bad_orders}
use Rattle.table.specs.declared.Record.{Record}
use Rattle.table.specs.declared.Record.TheVariants.{Unit as UnitStart, UnitEnd, Segment, Ignorable, Target, Text, Inline}
use Rattle.table.specs.declared.Read.{Read}
use Rattle.table.specs.declared.Read.TheVariants.{Good, Ill, Broken}
use Rattle.part_at.specs.declared.PartPlace.{PartPlace}
use Rattle.part_at.specs.Stands.{PartStands}

-- the code's cases
abbrev pub closed_in : ℕ → Record → Bool
closed_in u (UnitStart c) = false
closed_in u UnitEnd = false
closed_in u (Segment f) = eqb (cond (eqb f.can_resegment 45) u f.can_resegment) 78
closed_in u (Ignorable i) = eqb u 78
closed_in u (Target q) = false
closed_in u Text = false
closed_in u (Inline i) = false

abbrev pub closed_by : ℕ → Read → Bool
closed_by u (Good x w) = closed_in u x
closed_by u Ill = false
closed_by u (Broken b) = false

abbrev pub ClosedIs : List ℕ → PartPlace → Bool → Type 0
ClosedIs t place r = (b : List Part) (p : Part) (a : List Part) → PartStands t b p a place → r ≡ is_closed (unit t).opening.can_resegment p

abbrev pub BadOrdersAre : PartPlace → PartPlace → Bool → Type 0
BadOrdersAre x y r =
    (t : List ℕ) (b : List Part) (p : Part) (a : List Part) (c : List Part) (q : Part) (d : List Part)
    → PartStands t b p a x → PartStands t c q d y → r ≡ bad_orders p.target q.target
