use mathlib.Core.Path.{◌≡◌, refl, ap}
use native.Mathlib.Omega.{arith}
use borrow.Author.Tests.{eq-eqb, ne_eqb}
use Rattle.xml_nesting.specs.Nesting.{Found, Open, ending_behind}
use Rattle.xml_nesting.proofs.StepLaws.{passed}
use Rattle.xml_nesting.proofs.EndLaws.{left_start, left_none, left_found, left_more, left_on}
use Rattle.xml_nesting.proofs.end_data.Goals.{in-Opens, in-Closes-2, in-Stays}
use Rattle.xml_nesting.proofs.end_data.Goals as goal

-- before the first record
pub loop-at-init : goal.loop-at-init
loop-at-init c = (omega arith, λ rs a. left_start c.args.t.now c.args.start rs a)

-- Step::Closes(data_ref) if unclosed == 0 => return data_ref
pub returns-in-Closes : goal.returns-in-Closes
returns-in-Closes c =
    let loop = c.loop-at in
    let found : ending_behind loop.unclosed c.step_at.result ≡ Found c.in-Closes.data_ref
    = rw (c.in-Closes.is, eq-eqb loop.unclosed 0 c.if-unclosed-eq0.true) refl in
    λ rs a.
    left_found c.args.t.now loop.at loop.unclosed rs (loop.invariant.1 rs a) c.loop-at-test.true c.step_at.result
    c.step_at.ensures _ found

-- Step::Ends => return 0
pub returns-in-Ends : goal.returns-in-Ends
returns-in-Ends c =
    let loop = c.loop-at in
    λ rs a.
    left_found c.args.t.now loop.at loop.unclosed rs (loop.invariant.1 rs a) c.loop-at-test.true c.step_at.result
    c.step_at.ensures _ (ap (ending_behind loop.unclosed) c.in-Ends.is)

-- at = walker::after(t, at)
pub loop-at-smaller : goal.loop-at-smaller
loop-at-smaller c =
    let after = c.after-at in
    let loop = c.loop-at in
    let (rs, a) = c.requires in
    let l = loop.invariant.1 rs a in
    let p = passed c.args.t.now loop.at l.rest after.result l.there c.loop-at-test.true after.ensures in
    omega (arith, p.moves, p.fits)

-- one opens, one closes, or neither; at = walker::after(t, at)
pub loop-at-preserved : goal.loop-at-preserved
loop-at-preserved c =
    let loop = c.loop-at in
    let t = c.args.t.now in
    let n = loop.unclosed in
    let goes : ending_behind n c.step_at.result ≡ Open c.match-step_at.unclosed
    = elim c.match-step_at.branch [
      | in-Opens w ↦ rw (w.in-Opens.is, w.unclosed-is) refl
      | in-Closes-2 w ↦ rw (w.in-Closes-2.is, ne_eqb n 0 w.if-unclosed-eq0.false, w.unclosed-is) refl
      | in-Stays w ↦ rw (w.in-Stays.is, w.unclosed-is) refl
    ] in
    let (rs, a) = c.requires in (
      left_more t loop.at n rs (loop.invariant.1 rs a) c.loop-at-test.true c.step_at.result c.step_at.ensures
          _ _ goes c.after-at.ensures loop.invariant.0,
      λ rs a.
          left_on t loop.at n rs (loop.invariant.1 rs a) c.loop-at-test.true c.step_at.result c.step_at.ensures
          _ _ goes c.after-at.ensures,
    )

-- 0
pub returns : goal.returns
returns c =
    let loop = c.loop-at in
    λ rs a. left_none c.args.t.now loop.at loop.unclosed rs (loop.invariant.1 rs a) c.loop-at-test.false
