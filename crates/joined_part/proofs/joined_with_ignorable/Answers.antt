use Rattle.joined_part.proofs.HeadLaws.{one_joined}
use mathlib.Core.Path.{refl}
use Rattle.joined_part.proofs.joined_with_ignorable.Goals as goal

-- Segment { id: s.id, can_resegment: dash_if(s.can_resegment == b'-'), state: s.state }
pub returns : goal.returns
returns c =
    let args = c.args in
    one_joined args.s _ refl c.dash_if.ensures refl
