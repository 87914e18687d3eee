use Rattle.halves.proofs.TwoSequences.{blamed_step}
use Rattle.halves.specs.Nearest.{earlier, marker_at}
use Rattle.xliff.specs.Rules.{bad_9}
use Rattle.answers.proofs.Places.{blamed_end}
use mathlib.Core.Path.{◌∙◌, refl, sym}
use borrow.Author.Rules.{rules}
use Rattle.overlap.proofs.overlapping.Goals as goal

-- encloses_stray(t, h, i)
pub encloses_stray-bad-requires : goal.encloses_stray-bad-requires
unfolding earlier
encloses_stray-bad-requires c =
    let pre = c.requires in
    (pre, c.loop-i-test.true)

-- the loop's step
pub loop-i-preserved : goal.loop-i-preserved
unfolding earlier
loop-i-preserved c =
    let args = c.args in
    let loop = c.loop-i in
    let loop-test = c.loop-i-test in
    let encloses-stray = c.encloses_stray-bad in
    let wide = c.wide in (
      search rules,
      loop.invariant.1
          ∙ blamed_step 9 bad_9 args.t.now args.h.sequence.markers.now loop.i loop.best encloses-stray.result
          wide.result c.lower_if-best.result loop-test.true wide.ensures.0 encloses-stray.ensures
          c.lower_if-best.ensures,
    )

-- best
pub returns : goal.returns
unfolding earlier
returns c =
    let args = c.args in
    let t = args.t.now in
    let markers = args.h.sequence.markers.now in
    let loop = c.loop-i in
    sym (loop.invariant.1
    ∙ blamed_end bad_9 t markers (earlier (marker_at t markers) loop.i) loop.i loop.best 9 c.loop-i-test.false)

pub loop-i-init : goal.loop-i-init
unfolding earlier
loop-i-init c = (search rules, refl)
