use Rattle.part_at.proofs.ContentLaws.{Walked, walked_start, walked_on, walked_off, walked_fits, walked_end}
use borrow.Author.Tests.{not-true, not-false}
use native.Mathlib.Omega.{arith}
use mathlib.Core.Path.{sym, ◌∙◌, subst}
use Prim.Native.Nat.{ℕ, ◌+◌}
use Rattle.part_at.proofs.content_end.Goals as goal

-- the loop's start
pub loop-at-init : goal.loop-at-init
loop-at-init c = walked_start c.args.t.now c.args.start

-- return at
pub returns-then-not-is_content : goal.returns-then-not-is_content
returns-then-not-is_content c =
    let args = c.args in
    let loop = c.loop-at in
    let loop-test = c.loop-at-test in
    let known_at_lem = c.known_at-r in
    walked_off args.t.now args.start loop.at known_at_lem.result known_at_lem.ensures loop-test.true
    loop.invariant (sym c.is_content.ensures ∙ not-true _ c.if-not-is_content.true-raw)

-- at += syntax::width_of(r)
pub overflow_add-at : goal.overflow_add-at
overflow_add-at c =
    let loop = c.loop-at in
    let loop-test = c.loop-at-test in
    let known_at_lem = c.known_at-r in
    let f = walked_fits c.args.t.now c.args.start loop.at known_at_lem.result known_at_lem.ensures
    loop-test.true loop.invariant c.requires in
    omega (arith, f.1, c.width_of-at.ensures)

-- the loop ends
pub loop-at-smaller : goal.loop-at-smaller
loop-at-smaller c =
    let loop = c.loop-at in
    let loop-test = c.loop-at-test in
    let known_at_lem = c.known_at-r in
    let f = walked_fits c.args.t.now c.args.start loop.at known_at_lem.result known_at_lem.ensures
    loop-test.true loop.invariant c.requires in
    omega (arith, f.0, f.1, c.width_of-at.ensures)

-- the loop's step
pub loop-at-preserved : goal.loop-at-preserved
loop-at-preserved c =
    let args = c.args in
    let t = args.t.now in
    let start = args.start in
    let loop = c.loop-at in
    let loop-test = c.loop-at-test in
    let known_at_lem = c.known_at-r in
    subst (λ (k : ℕ). Walked t start (loop.at + k)) (sym c.width_of-at.ensures)
    (walked_on t start loop.at known_at_lem.result known_at_lem.ensures loop-test.true loop.invariant
    (sym c.is_content.ensures ∙ not-false _ c.if-not-is_content.false-raw))

-- at
pub returns : goal.returns
returns c =
    let args = c.args in
    let loop = c.loop-at in
    walked_end args.t.now args.start loop.at loop.invariant c.loop-at-test.false
