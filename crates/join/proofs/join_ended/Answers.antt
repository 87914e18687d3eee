use native.Mathlib.Omega.{arith}
use Rattle.result_rules.proofs.WorkLaws.{work_long, work_passes}
use Rattle.join.proofs.GoodLaws.{joined_good}
use Rattle.join.proofs.WorkLaws.{joined_work, answers_17, answers_15, answers_joined}
use Rattle.join.proofs.join_ended.Goals as goal

-- join_result::put_join(&mut work, table, x, y)
pub put_join-n-requires : goal.put_join-n-requires
put_join-n-requires c =
    let known = c.shared_slice_known-1.given in
    let (v, b, p, q, a, s) = c.requires in
    (v, b, p, q, a, s, (joined_good c.args.table.now known v b p q a s.first.all).size)

-- &work[..n], judged
pub slice_bounds-work-end : goal.slice_bounds-work-end
slice_bounds-work-end c =
    let args = c.args in
    let known = c.shared_slice_known-1.given in
    let put-join = c.put_join-n in
    let (v, b, p, q, a, s) = c.requires in
    (joined_work args.table.now known v args.x args.y b p q a s _ put-join.new.out put-join.result
    put-join.ensures).within

pub slice_bounds-breaks_7-end : goal.slice_bounds-breaks_7-end
slice_bounds-breaks_7-end c =
    let args = c.args in
    let put-join = c.put_join-n in
    let (v, b, p, q, a, s) = c.requires in
    work_long (joined_work args.table.now c.shared_slice_known-1.given v args.x args.y b p q a s _
    put-join.new.out put-join.result put-join.ensures)

-- result_rules::breaks_7(&work[..n])
pub breaks_7-requires : goal.breaks_7-requires
breaks_7-requires c =
    let args = c.args in
    let put-join = c.put_join-n in
    let (v, b, p, q, a, s) = c.requires in
    work_passes (joined_work args.table.now c.shared_slice_known-1.given v args.x args.y b p q a s _
    put-join.new.out put-join.result put-join.ensures)

-- return Answer::Refused(17, 0)
pub returns-then-breaks_7 : goal.returns-then-breaks_7
returns-then-breaks_7 c =
    let args = c.args in
    let put-join = c.put_join-n in
    let breaks-7 = c.breaks_7 in
    λ b p q a s.
    let w = joined_work args.table.now c.shared_slice_known-1.given c.requires.0 args.x
    args.y b p q a s _ put-join.new.out put-join.result put-join.ensures in
    answers_17 w args.out.now breaks-7.result breaks-7.ensures c.if-breaks_7.true

-- return Answer::Refused(15, 0)
pub returns-then-out-n : goal.returns-then-out-n
returns-then-out-n c =
    let args = c.args in
    let put-join = c.put_join-n in
    let breaks-7 = c.breaks_7 in
    λ b p q a s.
    let w = joined_work args.table.now c.shared_slice_known-1.given c.requires.0 args.x
    args.y b p q a s _ put-join.new.out put-join.result put-join.ensures in
    answers_15 w args.out.now breaks-7.result breaks-7.ensures c.if-breaks_7.false c.if-out-n.true

-- &work[..n], copied
pub slice_bounds-work-end-2 : goal.slice_bounds-work-end-2
slice_bounds-work-end-2 c =
    let args = c.args in
    let put-join = c.put_join-n in
    let (v, b, p, q, a, s) = c.requires in
    (joined_work args.table.now c.shared_slice_known-1.given v args.x args.y b p q a s _
    put-join.new.out put-join.result put-join.ensures).within

pub slice_bounds-put-end : goal.slice_bounds-put-end
slice_bounds-put-end c =
    let args = c.args in
    let put-join = c.put_join-n in
    let (v, b, p, q, a, s) = c.requires in
    work_long (joined_work args.table.now c.shared_slice_known-1.given v args.x args.y b p q a s _
    put-join.new.out put-join.result put-join.ensures)

-- writer::put(out, &work[..n])
pub put-requires : goal.put-requires
put-requires c =
    let args = c.args in
    let put-join = c.put_join-n in
    let (v, b, p, q, a, s) = c.requires in
    let w = joined_work args.table.now c.shared_slice_known-1.given v args.x args.y b p q a s _
    put-join.new.out put-join.result put-join.ensures in
    omega (arith, work_long w, c.if-out-n.false)

-- Answer::Accepted(..)
pub returns : goal.returns
returns c =
    let args = c.args in
    let put-join = c.put_join-n in
    let breaks-7 = c.breaks_7 in
    let put = c.put in
    λ b p q a s.
    let w = joined_work args.table.now c.shared_slice_known-1.given c.requires.0 args.x
    args.y b p q a s _ put-join.new.out put-join.result put-join.ensures in
    answers_joined w args.out.now breaks-7.result breaks-7.ensures c.if-breaks_7.false c.if-out-n.false
    put.result put.new.out put.ensures.0 put.ensures.1
