use mathlib.Core.Path.{sym, ◌∙◌}
use native.Mathlib.Omega.{arith}
use Rattle.xliff.specs.Encode.{unit_records}
use Rattle.xliff.specs.Parse.{unit}
use Rattle.places.proofs.Places.{at_start, at_end, at_more}
use Rattle.xml_nesting.proofs.StepLaws.{passed, first_step}
use Rattle.xml_nesting.proofs.DepthLaws.{unit_deep, deep_there, deep_later, deep_nowhere}
use Rattle.xml_nesting.proofs.too_deep.Goals as goal

-- before the first record
pub loop-at-init : goal.loop-at-init
loop-at-init c =
    let args = c.args in
    let pre = c.requires in
    let t = args.t.now in
    (unit_records (unit t), at_start t pre, omega arith, unit_deep (unit t))

-- depth_behind(depth, step_at(t, at))
pub depth_behind-depth-requires : goal.depth_behind-depth-requires
depth_behind-depth-requires c =
    let loop = c.loop-at in
    loop.invariant.2

-- return true
pub returns-then-depth-gt32 : goal.returns-then-depth-gt32
returns-then-depth-gt32 c =
    let if1 = c.if-depth-gt32.true in
    let depth_behind = c.depth_behind-depth in
    let step-at = c.step_at in
    let loop-test = c.loop-at-test.true in
    let loop = c.loop-at in
    let args = c.args in
    let (rs, a, k, e) = loop.invariant in
    let (r, qs, split) = at_more args.t.now loop.at rs a loop-test in
    let d = first_step args.t.now loop.at rs a r qs split loop.depth step-at.result step-at.ensures depth_behind.ensures in
    sym (deep_there loop.depth depth_behind.result rs r qs split d if1) ∙ e

-- at = walker::after(t, at)
pub loop-at-smaller : goal.loop-at-smaller
loop-at-smaller c =
    let after = c.after-at in
    let loop-test = c.loop-at-test.true in
    let loop = c.loop-at in
    let args = c.args in
    let (rs, a, k, e) = loop.invariant in
    let p = passed args.t.now loop.at rs after.result a loop-test after.ensures in
    omega (arith, p.moves, p.fits)

-- the depth behind the record is no more than 32
pub loop-at-preserved : goal.loop-at-preserved
loop-at-preserved c =
    let after = c.after-at in
    let if1 = c.if-depth-gt32.false in
    let depth_behind = c.depth_behind-depth in
    let step-at = c.step_at in
    let loop-test = c.loop-at-test.true in
    let loop = c.loop-at in
    let args = c.args in
    let (rs, a, k, e) = loop.invariant in
    let p = passed args.t.now loop.at rs after.result a loop-test after.ensures in
    let d = first_step args.t.now loop.at rs a p.first p.others p.split loop.depth step-at.result step-at.ensures depth_behind.ensures in
    (p.others, p.rest, if1, sym (deep_later loop.depth depth_behind.result rs p.first p.others p.split d if1) ∙ e)

-- false
pub returns : goal.returns
returns c =
    let loop-test = c.loop-at-test.false in
    let loop = c.loop-at in
    let args = c.args in
    let (rs, a, k, e) = loop.invariant in
    sym (deep_nowhere loop.depth rs (at_end args.t.now loop.at rs a loop-test)) ∙ e
