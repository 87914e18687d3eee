use lib.ListN.{length}
use Rattle.xliff.specs.Parse.{content}
use Rattle.xliff.specs.Rules.{fault_6_to_10}
use mathlib.Core.Bool.{true, false}
use Rattle.result_rules.proofs.WorkLaws.{work_long, work_passes}
use Rattle.result_rules.proofs.EndLaws.{answers_15, answers_broken, answers_kept}
use Rattle.set_target.proofs.GoodLaws.{content_holds}
use Rattle.set_target.proofs.EndLaws.{size_is, scratch_room, set_work, output_room}
use Rattle.set_target.proofs.set_ended.Goals as goal

-- set_result::is_too_large(table, place, content, out.len())
pub is_too_large-requires : goal.is_too_large-requires
is_too_large-requires c =
    let content₀ = c.args.content.now in
    let (w, pl, cf) = c.requires in
    let (b, p, a, s, f) = pl in
    ((w, (b, p, a, s)), (content content₀, content_holds content₀ c.shared_slice_known-2-1.given cf))

-- return Answer::Refused(15, 0)
pub returns-then-is_too_large : goal.returns-then-is_too_large
returns-then-is_too_large c =
    let known = c.shared_slice_known-1.given in
    let known2 = c.shared_slice_known-2-1.given in
    let args = c.args in
    let room = length args.out.now in
    let large = c.is_too_large in
    λ b p a s f.
    answers_15 _ fault_6_to_10 args.out.now
    (size_is args.table.now known c.requires.0 args.place args.content.now known2 c.requires.2 args.state
    args.order room large.result large.ensures b p a s true c.if-is_too_large.true)

-- set_result::put_set(&mut work, table, place, order, state, content)
pub put_set-n-requires : goal.put_set-n-requires
put_set-n-requires c =
    let known = c.shared_slice_known-1.given in
    let known2 = c.shared_slice_known-2-1.given in
    let args = c.args in
    let room = length args.out.now in
    let large = c.is_too_large in
    let (w, pl, cf) = c.requires in
    let (b, p, a, s, f) = pl in (
      (b, p, a, s),
      scratch_room args.table.now known c.requires.0 args.place args.content.now known2 c.requires.2 args.state
          args.order room large.result large.ensures b p a s c.if-is_too_large.false f,
    )

-- &work[..n], judged
pub slice_bounds-work-end : goal.slice_bounds-work-end
slice_bounds-work-end c =
    let known = c.shared_slice_known-1.given in
    let known2 = c.shared_slice_known-2-1.given in
    let args = c.args in
    let room = length args.out.now in
    let large = c.is_too_large in
    let small = c.if-is_too_large.false in
    let put-set = c.put_set-n in
    let (w, pl, cf) = c.requires in
    let (b, p, a, s, f) = pl in
    let x = set_work args.table.now known c.requires.0 args.place args.content.now known2 c.requires.2 args.state
    args.order room large.result large.ensures b p a s small f _ put-set.new.out put-set.result
    put-set.ensures in
    x.within

pub slice_bounds-rules_6_to_10-end : goal.slice_bounds-rules_6_to_10-end
slice_bounds-rules_6_to_10-end c =
    let known = c.shared_slice_known-1.given in
    let known2 = c.shared_slice_known-2-1.given in
    let args = c.args in
    let room = length args.out.now in
    let large = c.is_too_large in
    let small = c.if-is_too_large.false in
    let put-set = c.put_set-n in
    let (w, pl, cf) = c.requires in
    let (b, p, a, s, f) = pl in
    let x = set_work args.table.now known c.requires.0 args.place args.content.now known2 c.requires.2 args.state
    args.order room large.result large.ensures b p a s small f _ put-set.new.out put-set.result
    put-set.ensures in
    work_long x

-- result_rules::rules_6_to_10(&work[..n])
pub rules_6_to_10-requires : goal.rules_6_to_10-requires
rules_6_to_10-requires c =
    let known = c.shared_slice_known-1.given in
    let known2 = c.shared_slice_known-2-1.given in
    let args = c.args in
    let room = length args.out.now in
    let large = c.is_too_large in
    let small = c.if-is_too_large.false in
    let put-set = c.put_set-n in
    let (w, pl, cf) = c.requires in
    let (b, p, a, s, f) = pl in
    let x = set_work args.table.now known c.requires.0 args.place args.content.now known2 c.requires.2 args.state
    args.order room large.result large.ensures b p a s small f _ put-set.new.out put-set.result
    put-set.ensures in
    work_passes x

-- &work[..n], copied
pub slice_bounds-work-end-2 : goal.slice_bounds-work-end-2
slice_bounds-work-end-2 c =
    let known = c.shared_slice_known-1.given in
    let known2 = c.shared_slice_known-2-1.given in
    let args = c.args in
    let room = length args.out.now in
    let large = c.is_too_large in
    let small = c.if-is_too_large.false in
    let put-set = c.put_set-n in
    let (w, pl, cf) = c.requires in
    let (b, p, a, s, f) = pl in
    let x = set_work args.table.now known c.requires.0 args.place args.content.now known2 c.requires.2 args.state
    args.order room large.result large.ensures b p a s small f _ put-set.new.out put-set.result
    put-set.ensures in
    x.within

pub slice_bounds-put-end : goal.slice_bounds-put-end
slice_bounds-put-end c =
    let known = c.shared_slice_known-1.given in
    let known2 = c.shared_slice_known-2-1.given in
    let args = c.args in
    let room = length args.out.now in
    let large = c.is_too_large in
    let small = c.if-is_too_large.false in
    let put-set = c.put_set-n in
    let (w, pl, cf) = c.requires in
    let (b, p, a, s, f) = pl in
    let x = set_work args.table.now known c.requires.0 args.place args.content.now known2 c.requires.2 args.state
    args.order room large.result large.ensures b p a s small f _ put-set.new.out put-set.result
    put-set.ensures in
    work_long x

-- writer::put(out, &work[..n])
pub put-requires : goal.put-requires
put-requires c =
    let known = c.shared_slice_known-1.given in
    let known2 = c.shared_slice_known-2-1.given in
    let args = c.args in
    let room = length args.out.now in
    let large = c.is_too_large in
    let small = c.if-is_too_large.false in
    let put-set = c.put_set-n in
    let (w, pl, cf) = c.requires in
    let (b, p, a, s, f) = pl in
    let x = set_work args.table.now known c.requires.0 args.place args.content.now known2 c.requires.2 args.state
    args.order room large.result large.ensures b p a s small f _ put-set.new.out put-set.result
    put-set.ensures in
    output_room args.table.now known c.requires.0 args.place args.content.now known2 c.requires.2 args.state
    args.order room large.result large.ensures b p a s small f x

-- Answer::Accepted(..)
pub returns : goal.returns
returns c =
    let known = c.shared_slice_known-1.given in
    let known2 = c.shared_slice_known-2-1.given in
    let args = c.args in
    let room = length args.out.now in
    let large = c.is_too_large in
    let small = c.if-is_too_large.false in
    let put-set = c.put_set-n in
    let put = c.put in
    λ b p a s f.
    let x = set_work args.table.now known c.requires.0 args.place args.content.now known2 c.requires.2 args.state
    args.order room large.result large.ensures b p a s small f _ put-set.new.out put-set.result
    put-set.ensures in
    answers_kept _ fault_6_to_10 args.out.now
    (size_is args.table.now known c.requires.0 args.place args.content.now known2 c.requires.2 args.state
    args.order room large.result large.ensures b p a s false small) x
    c.in_default.ensures put.result put.new.out
    put.ensures.0 put.ensures.1

-- return Answer::Refused(k, 0)
pub returns-in-Some : goal.returns-in-Some
returns-in-Some c =
    let known = c.shared_slice_known-1.given in
    let known2 = c.shared_slice_known-2-1.given in
    let args = c.args in
    let room = length args.out.now in
    let large = c.is_too_large in
    let small = c.if-is_too_large.false in
    let put-set = c.put_set-n in
    λ b p a s f.
    let x = set_work args.table.now known c.requires.0 args.place args.content.now known2 c.requires.2 args.state
    args.order room large.result large.ensures b p a s small f _ put-set.new.out put-set.result
    put-set.ensures in
    answers_broken _ fault_6_to_10 args.out.now
    (size_is args.table.now known c.requires.0 args.place args.content.now known2 c.requires.2 args.state
    args.order room large.result large.ensures b p a s false small) x
    c.in-Some.k c.in-Some.ensures
