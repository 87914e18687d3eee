use Rattle.part_at.proofs.PartLaws.{focus_zero, reached_start, reached_missing, reached_part, reached_on, reached_found}
use Rattle.xliff.specs.Focus.{focus}
use Rattle.xliff.specs.Parse.{unit}
use borrow.Author.Tests.{not-true, not-false}
use native.Mathlib.Omega.{arith}
use mathlib.Core.Path.{sym, ◌∙◌, ap}
use Prim.Native.Nat.{ℕ}
use Rattle.part_at.proofs.part_at.Goals as goal

pub returns-then-n-eq0 : goal.returns-then-n-eq0
returns-then-n-eq0 c =
    let t = c.args.t.now in
    ap (λ (k : ℕ). focus (unit t).parts k) c.if-n-eq0.true ∙ focus_zero (unit t).parts

-- the loop's start
pub loop-number-init : goal.loop-number-init
loop-number-init c = reached_start c.args.t.now c.requires

pub returns-then-not-starts_part : goal.returns-then-not-starts_part
returns-then-not-starts_part c =
    let loop = c.loop-number in
    reached_missing c.args.t.now c.requires loop.number loop.at loop.invariant
    (sym c.starts_part.ensures ∙ not-true _ c.if-not-starts_part.true-raw)
    c.args.n (omega (arith, c.loop-number-test.true))

-- part_from(t, at).end
pub part_from-at-requires : goal.part_from-at-requires
part_from-at-requires c =
    let loop = c.loop-number in
    reached_part c.args.t.now c.requires loop.number loop.at loop.invariant
    (sym c.starts_part.ensures ∙ not-false _ c.if-not-starts_part.false-raw)

-- the loop's step
pub loop-number-preserved : goal.loop-number-preserved
loop-number-preserved c =
    let loop = c.loop-number in
    reached_on c.args.t.now c.requires loop.number loop.at loop.invariant
    (sym c.starts_part.ensures ∙ not-false _ c.if-not-starts_part.false-raw) c.part_from-at.result
    c.part_from-at.ensures

-- return None
pub returns-then-not-starts_part-2 : goal.returns-then-not-starts_part-2
returns-then-not-starts_part-2 c =
    let loop = c.loop-number in
    reached_missing c.args.t.now c.requires loop.number loop.at loop.invariant
    (sym c.starts_part-2.ensures ∙ not-true _ c.if-not-starts_part-2.true-raw)
    c.args.n (loop.auto.number-end (omega (arith, c.if-n-eq0.false)))

-- part_from(t, at)
pub part_from-requires : goal.part_from-requires
part_from-requires c =
    let loop = c.loop-number in
    reached_part c.args.t.now c.requires loop.number loop.at loop.invariant
    (sym c.starts_part-2.ensures ∙ not-false _ c.if-not-starts_part-2.false-raw)

-- Some(part_from(t, at))
pub returns : goal.returns
returns c =
    let loop = c.loop-number in
    let within = loop.auto.number-end (omega (arith, c.if-n-eq0.false)) in
    reached_found c.args.t.now c.requires loop.number loop.at loop.invariant
    (sym c.starts_part-2.ensures ∙ not-false _ c.if-not-starts_part-2.false-raw) c.part_from.result
    c.part_from.ensures c.args.n (omega (arith, within, c.loop-number-test.false))
