use native.Mathlib.Omega.{arith}
use Rattle.xliff.specs.Encode.{content_records}
use Rattle.walk.proofs.WalkLaws.{next}
use Rattle.set_result.proofs.CountLaws.{passed_start, passed_on, passed_all}
use Rattle.set_result.proofs.count_records.Goals as goal

-- before the first record
pub loop-at-init : goal.loop-at-init
loop-at-init c =
    let args = c.args in
    (omega arith, omega arith, λ rs o. passed_start args.c.now rs o)

-- the next record ends within the content
pub overflow_add-at : goal.overflow_add-at
overflow_add-at c =
    let pre = c.requires in
    let args = c.args in
    let loop = c.loop-at in
    let loop-test = c.loop-at-test.true in
    let width_at = c.width_at-at in
    let (xs, o) = pre in
    let m = loop.invariant.2 (content_records xs) o in
    omega (arith, (next args.c.now loop.at _ m.after loop-test m.rest width_at.ensures).fit)

-- there are no more records than bytes
pub overflow_add-n : goal.overflow_add-n
overflow_add-n c =
    let loop = c.loop-at in
    omega (arith, loop.invariant.1)

-- the walk goes on
pub loop-at-smaller : goal.loop-at-smaller
loop-at-smaller c =
    let pre = c.requires in
    let args = c.args in
    let loop = c.loop-at in
    let loop-test = c.loop-at-test.true in
    let width_at = c.width_at-at in
    let (xs, o) = pre in
    let m = loop.invariant.2 (content_records xs) o in
    let n = next args.c.now loop.at _ m.after loop-test m.rest width_at.ensures in
    omega (arith, n.fit, n.least)

-- one record more is counted
pub loop-at-preserved : goal.loop-at-preserved
loop-at-preserved c =
    let args = c.args in
    let pre = c.requires in
    let loop = c.loop-at in
    let loop-test = c.loop-at-test.true in
    let width_at = c.width_at-at in
    let c₀ = args.c.now in
    let at-now = loop.at in
    let inv = loop.invariant in
    let (xs, o) = pre in
    let m = inv.2 (content_records xs) o in
    let n = next c₀ at-now _ m.after loop-test m.rest width_at.ensures in (
      omega (arith, n.fit),
      omega (arith, n.least, inv.1),
      λ rs o. let m = inv.2 rs o in
          passed_on c₀ rs at-now _ loop.n m (next c₀ at-now _ m.after loop-test m.rest width_at.ensures),
    )

-- all are counted
pub returns : goal.returns
returns c =
    let args = c.args in
    let loop = c.loop-at in
    let loop-test = c.loop-at-test.false in
    let inv = loop.invariant in
    (omega arith, λ xs o. passed_all args.c.now (content_records xs) loop.at loop.n loop-test (inv.2 (content_records xs) o))
