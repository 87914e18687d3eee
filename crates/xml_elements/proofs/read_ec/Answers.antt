use Prim.Native.Nat.{ℕ}
use mathlib.Core.Path.{subst, sym}
use Rattle.xml.specs.Attributes.{with}
use Rattle.xml_elements.specs.Reading.{HalfId}
use Rattle.xml_elements.proofs.ElementLaws.{ec_none, ec_is, half_id_good}
use Rattle.xml_elements.proofs.read_ec.Goals as goal

-- no isolated: None
pub returns-in_err-isolated : goal.returns-in_err-isolated
returns-in_err-isolated c =
    rw c.from_residual.ensures (ec_none c.args.filled.slots.now c.args.filled.count c.in_err-isolated.ensures)

-- half_fields(slots, count, half_id(isolated)): none of the slots twice
pub half_fields-requires : goal.half_fields-requires
half_fields-requires c =
    let good = half_id_good c.in_ok-isolated.isolated in
    subst (λ (k : ℕ). HalfId k) (sym c.half_id.ensures) good

-- no fields: None
pub returns-in_err-f : goal.returns-in_err-f
unfolding with
returns-in_err-f c =
    let isolated = c.in_ok-isolated in
    rw c.from_residual-in_err-f.ensures
    (ec_is c.args.filled.slots.now c.args.filled.count isolated.isolated isolated.ensures _ (rw
    c.half_id.ensures at c.in_err-f.ensures))

-- Some(Inline::Single(half_item(isolated, Half::End, f)))
pub returns : goal.returns
unfolding with
returns c =
    let isolated = c.in_ok-isolated in
    rw c.half_item.ensures
    (ec_is c.args.filled.slots.now c.args.filled.count isolated.isolated isolated.ensures _ (rw
    c.half_id.ensures at c.in_ok-f.ensures))
