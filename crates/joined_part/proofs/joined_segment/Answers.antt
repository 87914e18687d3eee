use Rattle.joined_part.proofs.HeadLaws.{two_joined}
use mathlib.Core.Path.{refl}
use Rattle.joined_part.proofs.joined_segment.Goals as goal

-- Segment { id: x.id, can_resegment: dash, state: state }
pub returns : goal.returns
returns c =
    let args = c.args in
    two_joined args.x args.y _ refl c.dash_if-dash.ensures c.join_states.ensures
