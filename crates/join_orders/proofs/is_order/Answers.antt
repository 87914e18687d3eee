use Rattle.join_orders.proofs.FallLaws.{Sets, sets_walked, unit_sets}
use Rattle.part_at.proofs.SearchLaws.{searched_start, searched_here, searched_found, searched_on, searched_end}
use Rattle.xliff.specs.Parse.{unit}
use Rattle.xliff.specs.Unit.{orders}
use Rattle.xliff.specs.Bytes.{among}
use native.Mathlib.Omega.{arith}
use mathlib.Core.Path.{sym, ◌∙◌}
use Rattle.join_orders.proofs.is_order.Goals as goal

-- the loop's start: while at < t.len()
pub loop-at-init : goal.loop-at-init
loop-at-init c =
    let args = c.args in
    let t = args.t.now in
    searched_start t (Sets args.q) (among args.q (orders (unit t).parts)) c.requires (unit_sets args.q (unit t))

-- return true: return true;
pub returns-then-sets : goal.returns-then-sets
returns-then-sets c =
    let loop = c.loop-at in
    let args = c.args in
    let t = args.t.now in
    let q = args.q in
    let told = among q (orders (unit t).parts) in
    let g = c.glance_at-g.result in
    let seen = c.glance_at-g.ensures in
    let test = c.loop-at-test.true in
    let v = searched_here t (Sets q) told loop.at g seen loop.invariant test in
    let same = sets_walked q t loop.at loop.invariant.rs g v in
    sym (searched_found t (Sets q) told loop.at g seen loop.invariant test _ (c.sets.ensures ∙ same) c.if-sets.true)

-- at += g.width: at += g.width;
pub overflow_add-at : goal.overflow_add-at
overflow_add-at c =
    let loop = c.loop-at in
    let args = c.args in
    let t = args.t.now in
    let q = args.q in
    let told = among q (orders (unit t).parts) in
    let g = c.glance_at-g.result in
    let seen = c.glance_at-g.ensures in
    let test = c.loop-at-test.true in
    let v = searched_here t (Sets q) told loop.at g seen loop.invariant test in
    omega (arith, v.fits)

-- the loop ends: while at < t.len()
pub loop-at-smaller : goal.loop-at-smaller
loop-at-smaller c =
    let loop = c.loop-at in
    let args = c.args in
    let t = args.t.now in
    let q = args.q in
    let told = among q (orders (unit t).parts) in
    let g = c.glance_at-g.result in
    let seen = c.glance_at-g.ensures in
    let test = c.loop-at-test.true in
    let v = searched_here t (Sets q) told loop.at g seen loop.invariant test in
    omega (arith, v.fits, v.moves)

-- the loop's step: while at < t.len()
pub loop-at-preserved : goal.loop-at-preserved
loop-at-preserved c =
    let loop = c.loop-at in
    let args = c.args in
    let t = args.t.now in
    let q = args.q in
    let told = among q (orders (unit t).parts) in
    let g = c.glance_at-g.result in
    let seen = c.glance_at-g.ensures in
    let test = c.loop-at-test.true in
    let v = searched_here t (Sets q) told loop.at g seen loop.invariant test in
    let same = sets_walked q t loop.at loop.invariant.rs g v in
    searched_on t (Sets q) told loop.at g seen loop.invariant test _ (c.sets.ensures ∙ same) c.if-sets.false

-- false
pub returns : goal.returns
returns c =
    let args = c.args in
    let t = args.t.now in
    let loop = c.loop-at in
    sym (searched_end t (Sets args.q) (among args.q (orders (unit t).parts)) loop.at loop.invariant c.loop-at-test.false)
