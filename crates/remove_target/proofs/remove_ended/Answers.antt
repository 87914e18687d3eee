use native.Mathlib.Omega.{arith}
use lib.ListN.{length}
use Rattle.xliff.specs.Answer.{◌then◌}
use Rattle.xliff.specs.Rules.{fault_7, fault_9}
use Rattle.xliff.proofs.unit.Result.{small_table}
use Rattle.result_rules.proofs.WorkLaws.{work_long, work_passes, no_room, has_room}
use Rattle.result_rules.proofs.EndLaws.{answers_15, answers_broken, answers_kept}
use Rattle.remove_target.proofs.WorkLaws.{removed_work}
use Rattle.remove_target.proofs.remove_ended.Goals as goal

-- removed_target::put_removed(&mut work, table, place)
pub put_removed-n-requires : goal.put_removed-n-requires
put_removed-n-requires c =
    let (v, st) = c.requires in
    (st, small_table c.args.table.now v)

-- return Answer::Refused(15, 0)
pub returns-then-out-n : goal.returns-then-out-n
returns-then-out-n c =
    let args = c.args in
    let put-removed = c.put_removed-n in
    λ b p a s.
    let w = removed_work args.table.now c.shared_slice_known-1.given c.requires.0 b p a
    args.place s _ put-removed.new.out put-removed.result (put-removed.ensures b p a s) in
    answers_15 _ (λ ps. fault_7 ps then fault_9 ps) args.out.now (no_room w (length args.out.now) c.if-out-n.true)

-- &work[..n], judged
pub slice_bounds-work-end : goal.slice_bounds-work-end
slice_bounds-work-end c =
    let args = c.args in
    let put-removed = c.put_removed-n in
    let (v, st) = c.requires in
    let (b, p, a, s) = st in
    let w = removed_work args.table.now c.shared_slice_known-1.given v b p a args.place s _
    put-removed.new.out put-removed.result (put-removed.ensures b p a s) in
    w.within

pub slice_bounds-rules_7_and_9-end : goal.slice_bounds-rules_7_and_9-end
slice_bounds-rules_7_and_9-end c =
    let args = c.args in
    let put-removed = c.put_removed-n in
    let (v, st) = c.requires in
    let (b, p, a, s) = st in
    let w = removed_work args.table.now c.shared_slice_known-1.given v b p a args.place s _
    put-removed.new.out put-removed.result (put-removed.ensures b p a s) in
    work_long w

-- result_rules::rules_7_and_9(&work[..n])
pub rules_7_and_9-requires : goal.rules_7_and_9-requires
rules_7_and_9-requires c =
    let args = c.args in
    let put-removed = c.put_removed-n in
    let (v, st) = c.requires in
    let (b, p, a, s) = st in
    let w = removed_work args.table.now c.shared_slice_known-1.given v b p a args.place s _
    put-removed.new.out put-removed.result (put-removed.ensures b p a s) in
    work_passes w

-- &work[..n], copied
pub slice_bounds-work-end-2 : goal.slice_bounds-work-end-2
slice_bounds-work-end-2 c =
    let args = c.args in
    let put-removed = c.put_removed-n in
    let (v, st) = c.requires in
    let (b, p, a, s) = st in
    let w = removed_work args.table.now c.shared_slice_known-1.given v b p a args.place s _
    put-removed.new.out put-removed.result (put-removed.ensures b p a s) in
    w.within

pub slice_bounds-put-end : goal.slice_bounds-put-end
slice_bounds-put-end c =
    let args = c.args in
    let put-removed = c.put_removed-n in
    let (v, st) = c.requires in
    let (b, p, a, s) = st in
    let w = removed_work args.table.now c.shared_slice_known-1.given v b p a args.place s _
    put-removed.new.out put-removed.result (put-removed.ensures b p a s) in
    work_long w

-- writer::put(out, &work[..n])
pub put-requires : goal.put-requires
put-requires c =
    let args = c.args in
    let put-removed = c.put_removed-n in
    let (v, st) = c.requires in
    let (b, p, a, s) = st in
    let w = removed_work args.table.now c.shared_slice_known-1.given v b p a args.place s _
    put-removed.new.out put-removed.result (put-removed.ensures b p a s) in
    omega (arith, work_long w, c.if-out-n.false)

-- Answer::Accepted(..)
pub returns : goal.returns
returns c =
    let args = c.args in
    let put-removed = c.put_removed-n in
    let fits = c.if-out-n.false in
    let put = c.put in
    λ b p a s.
    let w = removed_work args.table.now c.shared_slice_known-1.given c.requires.0 b p a
    args.place s _ put-removed.new.out put-removed.result (put-removed.ensures b p a s) in
    answers_kept _ (λ ps. fault_7 ps then fault_9 ps) args.out.now (has_room w (length args.out.now) fits) w
    c.in_default.ensures put.result put.new.out put.ensures.0 put.ensures.1

-- return Answer::Refused(k, 0)
pub returns-in-Some : goal.returns-in-Some
returns-in-Some c =
    let args = c.args in
    let put-removed = c.put_removed-n in
    λ b p a s.
    let w = removed_work args.table.now c.shared_slice_known-1.given c.requires.0 b p a
    args.place s _ put-removed.new.out put-removed.result (put-removed.ensures b p a s) in
    answers_broken _ (λ ps. fault_7 ps then fault_9 ps) args.out.now
    (has_room w (length args.out.now) c.if-out-n.false) w c.in-Some.k c.in-Some.ensures
