use native.Mathlib.Omega.{arith}
use Prim.Native.Nat.{ℕ, ◌+◌, ◌-◌}
use mathlib.Core.Path.{◌≡◌, refl, sym, ap, ◌∙◌}
use borrow.Author.Tests.{not-true, not-false}
use Rattle.xliff.specs.SetTarget as set
use Rattle.xliff.specs.Unit.{orders}
use Rattle.xliff.specs.Parse.{unit}
use Rattle.target_order.proofs.OrderLaws.{lowest_here, lowest_above, lowest_none}
use Rattle.target_order.proofs.lowest_unused.Goals as goal

pub loop-q-init : goal.loop-q-init
loop-q-init c =
    let all : c.args.n ≡ c.args.n + 1 - 1 = omega arith in
    ap (λ (k : ℕ). set.lowest_unused 1 k (orders (unit c.args.t.now).parts)) all

-- return q
pub returns-then-not-is_order : goal.returns-then-not-is_order
returns-then-not-is_order c =
    let loop = c.loop-q in
    sym (loop.invariant
    ∙ lowest_here (orders (unit c.args.t.now).parts) loop.q (c.args.n + 1 - loop.q) (omega (arith, c.loop-q-test.true))
    (sym c.is_order.ensures ∙ not-true _ c.if-not-is_order.true-raw))

-- the loop's step
pub loop-q-preserved : goal.loop-q-preserved
loop-q-preserved c =
    let used = orders (unit c.args.t.now).parts in
    let n = c.args.n in
    let loop = c.loop-q in
    let next : n + 1 - loop.q - 1 ≡ n + 1 - (loop.q + 1) = omega arith in
    loop.invariant
    ∙ lowest_above used loop.q (n + 1 - loop.q) (omega (arith, c.loop-q-test.true))
    (sym c.is_order.ensures ∙ not-false _ c.if-not-is_order.false-raw)
    ∙ ap (λ (k : ℕ). set.lowest_unused (loop.q + 1) k used) next

-- n + 1
pub returns : goal.returns
returns c =
    let loop = c.loop-q in
    let last : loop.q ≡ c.args.n + 1 = omega (arith, c.loop-q-test.false, loop.auto.q-end (omega arith)) in
    sym (loop.invariant
    ∙ lowest_none (orders (unit c.args.t.now).parts) loop.q (c.args.n + 1 - loop.q) (omega (arith, c.loop-q-test.false))
    ∙ last)
