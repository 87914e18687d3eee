use Rattle.set_target.proofs.OldLaws.{ignorable_fits, segment_fits}
use Rattle.set_target.proofs.state_fits.Goals as goal

-- `if place.segment`: a segment
pub returns-then-place : goal.returns-then-place
returns-then-place c =
    let args = c.args in
    λ t b p a s. segment_fits args.state t b p a args.place s c.if-place.true

-- an ignorable
pub returns : goal.returns
returns c =
    let args = c.args in
    λ t b p a s. ignorable_fits args.state t b p a args.place s c.if-place.false
