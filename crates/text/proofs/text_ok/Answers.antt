use native.Mathlib.Omega.{arith}
use mathlib.Core.Path.{sym, ◌∙◌, refl}
use Rattle.text.proofs.Utf8Laws.{text_end}
use Rattle.text.proofs.text_ok.Goals as goal

-- the loop ends
pub loop-at-smaller : goal.loop-at-smaller
loop-at-smaller c =
    let pass_some = c.pass_some in
    let p = rw c.in-Some.is at pass_some.ensures in
    omega (arith, p.0, p.1)

-- the loop's step
pub loop-at-preserved : goal.loop-at-preserved
loop-at-preserved c =
    let loop = c.loop-at in
    let pass_some = c.pass_some in
    let p = rw c.in-Some.is at pass_some.ensures in
    (p.1, loop.invariant.1 ∙ p.2)

-- return false
pub returns-in_default : goal.returns-in_default
returns-in_default c =
    let loop = c.loop-at in
    sym (loop.invariant.1 ∙ (rw c.in_default.is at c.pass_some.ensures))

-- true
pub returns : goal.returns
returns c =
    let t = c.args.t.now in
    let loop = c.loop-at in
    sym (loop.invariant.1 ∙ text_end t loop.at c.loop-at-test.false)

pub loop-at-init : goal.loop-at-init
loop-at-init c = (omega arith, refl)
