use Rattle.part_refusals.proofs.ClosedLaws.{some_unit, closed_is}
use mathlib.Core.Path.{◌∙◌}
use Rattle.part_refusals.proofs.is_closed.Goals as goal

-- heads::unit_resegment(t)
pub unit_resegment-unit-requires : goal.unit_resegment-unit-requires
unit_resegment-unit-requires c = some_unit c.args.t.now c.args.place c.requires

-- closed_by(unit, walker::known_at(t, place.head))
pub returns : goal.returns
returns c =
    let args = c.args in
    let unit-resegment = c.unit_resegment-unit in
    let known_at_lem = c.known_at in
    λ b p a s.
    c.closed_by.ensures
    ∙ closed_is args.t.now args.place unit-resegment.result known_at_lem.result unit-resegment.ensures
    known_at_lem.ensures b p a s
