use mathlib.Core.Path.{ap, ◌∙◌}
use native.Mathlib.Omega.{arith}
use Rattle.table.specs.declared.Opening.{Opening}
use Rattle.heads.proofs.HeadLaws.{unit_least, resegment_read}
use Rattle.heads.proofs.unit_resegment.Goals as goal

-- the table has the bytes of UN
pub opening_fields-f-requires : goal.opening_fields-f-requires
opening_fields-f-requires c = omega (arith, unit_least c.args.t.now c.requires)

-- what the reader finds is the unit's canResegment
pub returns : goal.returns
returns c =
    let t = c.args.t.now in
    λ o s e. ap (λ (f : Opening). f.can_resegment) c.opening_fields-f.ensures ∙ resegment_read t o s e
