use mathlib.Core.Path.{◌∙◌, sym}
use lib.Seq.{length-take-le}
use Rattle.rewrite_refusals.proofs.TestLaws.{fits_aside, aside_passes, aside_judged}
use Rattle.places.proofs.Places.{checked_passes}
use Rattle.xliff.proofs.unit.Result.{small_table}
use Rattle.rewrite_refusals.proofs.is_apart.Goals as goal

-- rewrite_marks::put_rewritten(&mut work, t, side, id, b'P')
pub put_rewritten-n-requires : goal.put_rewritten-n-requires
put_rewritten-n-requires c =
    let t = c.args.t.now in
    let (p, a, u) = c.requires in
    (checked_passes t a.bytes a.valid, small_table t a.valid)

-- &work[..n]
pub slice_bounds-work-end : goal.slice_bounds-work-end
slice_bounds-work-end c =
    let args = c.args in
    let put-rewritten = c.put_rewritten-n in
    let (p, a, u) = c.requires in
    fits_aside args.t.now args.side args.id p a u put-rewritten.result _ put-rewritten.new.out
    put-rewritten.ensures.0 put-rewritten.ensures.1

-- &work[..n]
pub slice_bounds-breaks_7-end : goal.slice_bounds-breaks_7-end
slice_bounds-breaks_7-end c =
    let args = c.args in
    let put-rewritten = c.put_rewritten-n in
    let (p, a, u) = c.requires in
    sym (length-take-le put-rewritten.result put-rewritten.new.out
    (fits_aside args.t.now args.side args.id p a u put-rewritten.result _ put-rewritten.new.out
    put-rewritten.ensures.0 put-rewritten.ensures.1))

-- result_rules::breaks_7(&work[..n])
pub breaks_7-requires : goal.breaks_7-requires
breaks_7-requires c =
    let args = c.args in
    let put-rewritten = c.put_rewritten-n in
    let (p, a, u) = c.requires in
    aside_passes args.t.now args.side args.id p a u put-rewritten.result _ put-rewritten.new.out
    put-rewritten.ensures.0 put-rewritten.ensures.1

-- result_rules::breaks_7(&work[..n])
pub returns : goal.returns
returns c =
    let args = c.args in
    let put-rewritten = c.put_rewritten-n in
    let (p, a, u) = c.requires in
    c.breaks_7.ensures
    ∙ aside_judged args.t.now args.side args.id p a u put-rewritten.result _ put-rewritten.new.out
    put-rewritten.ensures.0 put-rewritten.ensures.1
