use mathlib.Core.Path.{sym, ◌∙◌}
use native.Mathlib.Omega.{arith}
use Rattle.xml_part.proofs.PositionLaws.{position_small, beyond_collects}
use Rattle.xml_part.proofs.put_order.Goals as goal

-- position as u16
pub overflow_cast-position : goal.overflow_cast-position
overflow_cast-position c = omega (arith, position_small c.requires (sym c.is_over.ensures ∙ c.if-not-is_over.true))

-- a limit is passed
pub returns-else-not-is_over : goal.returns-else-not-is_over
returns-else-not-is_over c =
    rw c.in-None.is (beyond_collects c.args.position (sym c.is_over.ensures ∙ c.if-not-is_over.false))
