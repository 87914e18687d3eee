use native.Mathlib.Omega.{arith}
use Rattle.part_refusals.proofs.has_id.Goals as goal

-- at + 2
pub overflow_add-at : goal.overflow_add-at
overflow_add-at c = omega (arith, c.requires c.if-named.true)

-- marks::number_at(t, at + 2): table::number_at(t, at + 2)
pub number_at-requires : goal.number_at-requires
number_at-requires c = omega (arith, c.requires c.if-named.true)

-- return marks::number_at(t, at + 2) == id: return table::number_at(t, at + 2) == id;
pub returns-then-named : goal.returns-then-named
returns-then-named c = simp (c.if-named.true, c.number_at.ensures)

-- false
pub returns : goal.returns
returns c = simp c.if-named.false
