use Rattle.sequences.proofs.GlanceLaws.{content_on, content_off, content_end}
use Rattle.sequences.proofs.TargetLaws.{begun, order_here, order_other}
use Rattle.sequences.specs.Targets.{of_order, head_number}
use Rattle.sequences.proofs.FillLaws.{fill_room, fill_on, fill_end, fill_none}
use Rattle.orders.proofs.WalkLaws.{walked}
use borrow.Author.Tests.{not-true, not-false}
use lib.ListN.{length, take}
use native.Mathlib.Omega.{arith}
use mathlib.Core.Path.{refl, sym, ap, ◌∙◌}
use mathlib.Core.List.{List, [], ◌∷◌, ◌++◌}
use mathlib.Core.Bool.{cond}
use Prim.Native.Nat.{ℕ}
use Rattle.sequences.proofs.target_markers.Goals as goal

-- return n
pub returns-then-not-sets : goal.returns-then-not-sets
returns-then-not-sets c =
    let args = c.args in
    let t = args.t.now in
    let i = args.i in
    let pre = c.requires in
    let wide = c.wide-head in
    let glance_at = c.glance_at-first in
    let b = begun t args.heads.now i pre.0 pre.2 pre.3 wide.result wide.ensures.0
    glance_at.result glance_at.ensures in
    fill_none args.out.now (of_order args.q (head_number t i)) args.n (order_other args.q b (sym c.sets.ensures ∙ not-true _ c.if-not-sets.true-raw))

-- head + first.width
pub overflow_add-at : goal.overflow_add-at
overflow_add-at c =
    let args = c.args in
    let pre = c.requires in
    let wide = c.wide-head in
    let glance_at = c.glance_at-first in
    let b = begun args.t.now args.heads.now args.i pre.0 pre.2 pre.3 wide.result
    wide.ensures.0 glance_at.result glance_at.ensures in
    omega (arith, b.fits)

-- the loop's start
pub loop-at-init : goal.loop-at-init
loop-at-init c =
    let args = c.args in
    let t = args.t.now in
    let i = args.i in
    let pre = c.requires in
    let wide = c.wide-head in
    let glance_at = c.glance_at-first in
    let b = begun t args.heads.now i pre.0 pre.2 pre.3 wide.result wide.ensures.0
    glance_at.result glance_at.ensures in
    let h = order_here args.q b (sym c.sets.ensures ∙ not-false _ c.if-not-sets.false-raw) in (
      (head_number t i).behind,
      b.rest,
      record {
        sized = refl;
        all = ap (λ (l : List ℕ). take args.n args.out.now ++ l) (sym h);
        count = omega (arith, ap length h);
      },
    )

-- return m
pub shape_of-out-then-not-is_other : goal.shape_of-out-then-not-is_other
shape_of-out-then-not-is_other c =
    let loop = c.loop-at in
    loop.invariant.2.sized

-- return m
pub returns-then-not-is_other : goal.returns-then-not-is_other
returns-then-not-is_other c =
    let t = c.args.t.now in
    let loop = c.loop-at in
    let inv = loop.invariant in
    let loop-test = c.loop-at-test in
    let glance-at2 = c.glance_at-g in
    let v = walked t loop.at inv.0 glance-at2.result inv.1 loop-test.true glance-at2.ensures in
    let f = fill_end inv.2 (content_off t loop.at inv.0 glance-at2.result v (sym c.is_other.ensures ∙ not-true _ c.if-not-is_other.true-raw)) in
    (f.0, f.1, inv.2.sized)

-- at as u16
pub overflow_cast-at : goal.overflow_cast-at
overflow_cast-at c =
    let pre = c.requires in
    let loop-test = c.loop-at-test in
    omega (arith, loop-test.true, pre.1)

-- put_if(g.marker, out, m, at as u16)
pub put_if-m-requires : goal.put_if-m-requires
put_if-m-requires c =
    let t = c.args.t.now in
    let pre = c.requires in
    let loop = c.loop-at in
    let at-now = loop.at in
    let inv = loop.invariant in
    let loop-test = c.loop-at-test in
    let glance-at2 = c.glance_at-g in
    let v = walked t at-now inv.0 glance-at2.result inv.1 loop-test.true glance-at2.ensures in
    let e = content_on t at-now inv.0 glance-at2.result v (sym c.is_other.ensures ∙ not-false _ c.if-not-is_other.false-raw) in (
      fill_room (cond glance-at2.result.marker (at-now ∷ []) []) _ inv.2 e pre.4,
      omega (arith, inv.2.sized, pre.5),
    )

-- at += g.width
pub overflow_add-at-in-loop-at : goal.overflow_add-at-in-loop-at
overflow_add-at-in-loop-at c =
    let loop = c.loop-at in
    let loop-test = c.loop-at-test in
    let glance-at2 = c.glance_at-g in
    let v = walked c.args.t.now loop.at loop.invariant.0 glance-at2.result loop.invariant.1
    loop-test.true glance-at2.ensures in
    omega (arith, v.fits, c.requires.1)

-- the loop ends
pub loop-at-smaller : goal.loop-at-smaller
loop-at-smaller c =
    let t = c.args.t.now in
    let loop = c.loop-at in
    let loop-test = c.loop-at-test in
    let glance-at2 = c.glance_at-g in
    let v = walked t loop.at loop.invariant.0 glance-at2.result loop.invariant.1 loop-test.true
    glance-at2.ensures in
    omega (arith, v.fits, v.moves)

-- the loop's step
pub loop-at-preserved : goal.loop-at-preserved
loop-at-preserved c =
    let t = c.args.t.now in
    let loop = c.loop-at in
    let at-now = loop.at in
    let inv = loop.invariant in
    let loop-test = c.loop-at-test in
    let glance-at2 = c.glance_at-g in
    let put_if = c.put_if-m in
    let v = walked t at-now inv.0 glance-at2.result inv.1 loop-test.true glance-at2.ensures in
    let e = content_on t at-now inv.0 glance-at2.result v (sym c.is_other.ensures ∙ not-false _ c.if-not-is_other.false-raw) in (
      v.step.others,
      v.rest,
      fill_on (cond glance-at2.result.marker (at-now ∷ []) []) _ inv.2 e put_if.ensures,
    )

-- m
pub shape_of-out : goal.shape_of-out
shape_of-out c = c.loop-at.invariant.2.sized

-- m
pub returns : goal.returns
returns c =
    let t = c.args.t.now in
    let loop = c.loop-at in
    let inv = loop.invariant in
    let f = fill_end inv.2 (content_end t loop.at inv.0 inv.1 c.loop-at-test.false) in
    (f.0, f.1, inv.2.sized)
