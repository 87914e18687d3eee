use Rattle.heads.proofs.HeadLaws.{some_segment, state_room, state_set, state_kept}
use mathlib.Core.Path.{sym}
use Rattle.heads.proofs.put_with_state.Goals as goal

-- return writer::put(out, head)
pub returns-in_default : goal.returns-in_default
returns-in_default c =
    let args = c.args in
    let put = c.put in
    λ h e.
    state_kept args.head.now args.state args.out.now put.new.out put.result put.ensures h e (sym (c.in_default.ensures h e))

-- put_segment(out, Segment { state, ..f })
pub put_segment-requires : goal.put_segment-requires
put_segment-requires c =
    let args = c.args in
    let head = args.head.now in
    let ((h, e), room) = c.requires in
    state_room head (some_segment head h e (sym (c.in-Some.ensures.0 h e))) _ args.out.now room

-- put_segment(out, Segment { state, ..f })
pub returns : goal.returns
returns c =
    let args = c.args in
    let some = c.in-Some in
    let put-segment = c.put_segment in
    λ h e.
    state_set args.head.now args.state args.out.now put-segment.new.out put-segment.result
    some.f some.ensures.1 put-segment.ensures h e (sym (some.ensures.0 h e))
