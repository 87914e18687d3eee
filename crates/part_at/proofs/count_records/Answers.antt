use Rattle.orders.proofs.WalkLaws.{walked}
use Rattle.places.proofs.Places.{at_start, at_end}
use Rattle.xliff.specs.Encode.{Record, unit_records}
use Rattle.xliff.specs.Parse.{unit}
use native.Mathlib.Omega.{arith}
use lib.ListN.{length}
use mathlib.Core.List.{List}
use mathlib.Core.Path.{ap}
use Rattle.part_at.proofs.count_records.Goals as goal

-- while at < t.len()
pub loop-at-init : goal.loop-at-init
loop-at-init c =
    let t = c.args.t.now in
    (unit_records (unit t), at_start t c.requires, omega arith)

-- at += g.width;
pub overflow_add-at : goal.overflow_add-at
overflow_add-at c =
    let loop = c.loop-at in
    let t = c.args.t.now in
    let v = walked t loop.at loop.invariant.0 c.glance_at-g.result loop.invariant.1 c.loop-at-test.true c.glance_at-g.ensures in
    omega (arith, v.fits)

-- n += 1;
pub overflow_add-n : goal.overflow_add-n
overflow_add-n c = omega (arith, c.loop-at.invariant.2, c.requires.few)

-- while at < t.len()
pub loop-at-smaller : goal.loop-at-smaller
loop-at-smaller c =
    let loop = c.loop-at in
    let t = c.args.t.now in
    let v = walked t loop.at loop.invariant.0 c.glance_at-g.result loop.invariant.1 c.loop-at-test.true c.glance_at-g.ensures in
    omega (arith, v.fits, v.moves)

-- while at < t.len()
pub loop-at-preserved : goal.loop-at-preserved
loop-at-preserved c =
    let loop = c.loop-at in
    let t = c.args.t.now in
    let v = walked t loop.at loop.invariant.0 c.glance_at-g.result loop.invariant.1 c.loop-at-test.true c.glance_at-g.ensures in
    (v.step.others, v.rest, omega (arith, loop.invariant.2, ap (λ (l : List Record). length l) v.step.split))

-- n
pub returns : goal.returns
returns c =
    let loop = c.loop-at in
    let none = at_end c.args.t.now loop.at loop.invariant.0 loop.invariant.1 c.loop-at-test.false in
    omega (arith, loop.invariant.2, ap (λ (l : List Record). length l) none)
