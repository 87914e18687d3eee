use mathlib.Core.Path.{refl}
use native.Mathlib.Omega.{arith}
use Rattle.xliff.specs.Bytes.{among}
use Rattle.xml.specs.Attributes.{with}
use Rattle.xml_elements.specs.Reading.{apart}
use Rattle.xml_elements.proofs.ElementLaws.{sc_none, sc_is}
use Rattle.xml_elements.proofs.read_sc.Goals as goal

-- no isolated: None
pub returns-in_err-isolated : goal.returns-in_err-isolated
returns-in_err-isolated c =
    rw c.from_residual.ensures (sc_none c.args.filled.slots.now c.args.filled.count c.in_err-isolated.ensures)

-- half_fields(slots, count, ID): none of the slots twice
pub half_fields-requires : goal.half_fields-requires
unfolding apart among
half_fields-requires c = ((refl, omega arith))

-- no fields: None
pub returns-in_err-f : goal.returns-in_err-f
unfolding with
returns-in_err-f c =
    let isolated = c.in_ok-isolated in
    rw c.from_residual-in_err-f.ensures
    (sc_is c.args.filled.slots.now c.args.filled.count isolated.isolated isolated.ensures _ c.in_err-f.ensures)

-- Some(Inline::Single(half_item(isolated, Half::Start, f)))
pub returns : goal.returns
unfolding with
returns c =
    let isolated = c.in_ok-isolated in
    rw c.half_item.ensures
    (sc_is c.args.filled.slots.now c.args.filled.count isolated.isolated isolated.ensures _ c.in_ok-f.ensures)
