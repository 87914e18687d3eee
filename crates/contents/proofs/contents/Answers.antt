use mathlib.Core.Path.{◌∙◌, sym}
use native.Mathlib.Omega.{arith}
use Rattle.contents.proofs.WalkLaws.{walk_start, walk_fits, walk_room, walk_on, walk_end}
use Rattle.contents.proofs.contents.Goals as goal

-- the loop's start
pub loop-at-init : goal.loop-at-init
loop-at-init c =
    let args = c.args in
    let pre = c.requires in
    walk_start args.t.now args.targets _ pre.0 pre.2

-- at as u16
pub overflow_cast-at : goal.overflow_cast-at
overflow_cast-at c =
    let pre = c.requires in
    let loop-test = c.loop-at-test in
    omega (arith, loop-test.true, pre.1)

-- sequences::put_if(is_found(g.head, inside, g.marker), out, m, at as u16)
pub put_if-m-requires : goal.put_if-m-requires
put_if-m-requires c =
    let pre = c.requires in
    let loop = c.loop-at in
    let inv = loop.invariant in
    let loop-test = c.loop-at-test in
    let glance_at = c.glance_at-g in (
      omega (
        arith,
        walk_room inv glance_at.result loop-test.true glance_at.ensures c.is_found.ensures
            pre.0,
        inv.sized,
      ),
      omega (arith, inv.sized),
    )

-- at += g.width
pub overflow_add-at : goal.overflow_add-at
overflow_add-at c =
    let loop = c.loop-at in
    let loop-test = c.loop-at-test in
    let glance_at = c.glance_at-g in
    let is_found = c.is_found in
    omega (
      arith,
      (walk_fits loop.invariant glance_at.result loop-test.true glance_at.ensures is_found.ensures).1,
    )

-- the loop ends
pub loop-at-smaller : goal.loop-at-smaller
loop-at-smaller c =
    let loop = c.loop-at in
    let loop-test = c.loop-at-test in
    let glance_at = c.glance_at-g in
    let is_found = c.is_found in
    omega
    (arith, walk_fits loop.invariant glance_at.result loop-test.true glance_at.ensures is_found.ensures)

-- the loop's step
pub loop-at-preserved : goal.loop-at-preserved
loop-at-preserved c =
    let loop = c.loop-at in
    let loop-test = c.loop-at-test in
    let glance_at = c.glance_at-g in
    let is_found = c.is_found in
    let put_if = c.put_if-m in
    walk_on loop.invariant glance_at.result loop-test.true glance_at.ensures is_found.ensures
    c.inside_after-inside.ensures put_if.ensures

-- m
pub shape_of-out : goal.shape_of-out
shape_of-out c =
    let pre = c.requires in
    c.loop-at.invariant.sized ∙ sym pre.2

-- m
pub returns : goal.returns
returns c =
    let pre = c.requires in
    walk_end c.loop-at.invariant pre.0 c.loop-at-test.false
