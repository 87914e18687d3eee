use Rattle.join_orders.proofs.FallLaws.{unused_here, unused_below, unused_none}
use Rattle.xliff.specs.Join as join
use Rattle.xliff.specs.Parse.{unit}
use Rattle.xliff.specs.Unit.{orders}
use borrow.Author.Tests.{not-true, not-false}
use native.Mathlib.Omega.{arith}
use Prim.Native.Nat.{ℕ, ◌+◌, ◌-◌}
use mathlib.Core.Path.{◌≡◌, refl, sym, ap, ◌∙◌}
use Rattle.join_orders.proofs.highest_unused.Goals as goal

pub loop-passed-init : goal.loop-passed-init
loop-passed-init c =
    let all : c.args.n ≡ c.args.n - 0 = omega arith in
    ap (λ (k : ℕ). join.highest_unused k (orders (unit c.args.t.now).parts)) all

-- return k
pub returns-then-not-is_order : goal.returns-then-not-is_order
returns-then-not-is_order c =
    let loop = c.loop-passed in
    sym (loop.invariant
    ∙ unused_here (orders (unit c.args.t.now).parts) (c.args.n - loop.passed) (omega (arith, c.loop-passed-test.true))
    (sym c.is_order.ensures ∙ not-true _ c.if-not-is_order.true-raw))

-- the loop's step
pub loop-passed-preserved : goal.loop-passed-preserved
loop-passed-preserved c =
    let used = orders (unit c.args.t.now).parts in
    let n = c.args.n in
    let loop = c.loop-passed in
    let next : n - loop.passed - 1 ≡ n - (loop.passed + 1) = omega arith in
    loop.invariant
    ∙ unused_below used (n - loop.passed) (omega (arith, c.loop-passed-test.true))
    (sym c.is_order.ensures ∙ not-false _ c.if-not-is_order.false-raw)
    ∙ ap (λ (k : ℕ). join.highest_unused k used) next

-- 0
pub returns : goal.returns
returns c =
    let loop = c.loop-passed in
    sym (loop.invariant
    ∙ unused_none (orders (unit c.args.t.now).parts) (c.args.n - loop.passed) (omega (arith, c.loop-passed-test.false)))
