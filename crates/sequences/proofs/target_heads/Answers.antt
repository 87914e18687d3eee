use Rattle.sequences.proofs.GlanceLaws.{heads_on, heads_end}
use Rattle.sequences.proofs.TargetLaws.{heads_few}
use Rattle.sequences.specs.Targets.{head_offsets, heads_of}
use Rattle.sequences.proofs.FillLaws.{fill_room, fill_on, fill_end}
use Rattle.glance.specs.Glances.{kind_of}
use Rattle.orders.proofs.WalkLaws.{walked}
use Rattle.places.proofs.Places.{at_start}
use Rattle.xliff.specs.Encode.{unit_records}
use Rattle.xliff.specs.Parse.{unit}
use lib.Dec.{eqb}
use native.Mathlib.Omega.{arith}
use mathlib.Core.Path.{refl, sym, ◌∙◌}
use mathlib.Core.List.{[], ◌∷◌}
use mathlib.Core.Bool.{cond}
use borrow.Author.Rules.{rules}
use Rattle.sequences.proofs.target_heads.Goals as goal

-- the loop's start
pub loop-at-init : goal.loop-at-init
unfolding head_offsets heads_of
loop-at-init c =
    let t = c.args.t.now in
    let pre = c.requires in
    (unit_records (unit t), at_start t pre.0, record { sized = pre.2; all = refl; count = omega arith })

-- at as u16
pub overflow_cast-at : goal.overflow_cast-at
unfolding head_offsets heads_of
overflow_cast-at c =
    let pre = c.requires in
    let loop-test = c.loop-at-test in
    omega (arith, loop-test.true, pre.1)

-- put_if(g.head.is_target(), heads, m, at as u16)
pub put_if-m-requires : goal.put_if-m-requires
unfolding head_offsets heads_of
put_if-m-requires c =
    let t = c.args.t.now in
    let loop = c.loop-at in
    let at-now = loop.at in
    let inv = loop.invariant in
    let loop-test = c.loop-at-test in
    let glance_at = c.glance_at-g in
    let v = walked t at-now inv.0 glance_at.result inv.1 loop-test.true glance_at.ensures in
    let e = heads_on t at-now inv.0 glance_at.result v in
    rw c.is_target.ensures (
      fill_room (cond (eqb (kind_of glance_at.result.head) 1) (at-now ∷ []) []) _ inv.2 e
          (heads_few t c.requires.0),
      omega (arith, inv.2.sized),
    )

-- at += g.width
pub overflow_add-at : goal.overflow_add-at
unfolding head_offsets heads_of
overflow_add-at c =
    let t = c.args.t.now in
    let loop = c.loop-at in
    let loop-test = c.loop-at-test in
    let glance_at = c.glance_at-g in
    let v = walked t loop.at loop.invariant.0 glance_at.result loop.invariant.1 loop-test.true
    glance_at.ensures in
    omega (arith, v.fits)

-- the loop ends
pub loop-at-smaller : goal.loop-at-smaller
unfolding head_offsets heads_of
loop-at-smaller c =
    let t = c.args.t.now in
    let loop = c.loop-at in
    let loop-test = c.loop-at-test in
    let glance_at = c.glance_at-g in
    let v = walked t loop.at loop.invariant.0 glance_at.result loop.invariant.1 loop-test.true
    glance_at.ensures in
    omega (arith, v.fits, v.moves)

-- the loop's step
pub loop-at-preserved : goal.loop-at-preserved
unfolding head_offsets heads_of
loop-at-preserved c =
    let t = c.args.t.now in
    let loop = c.loop-at in
    let at-now = loop.at in
    let inv = loop.invariant in
    let loop-test = c.loop-at-test in
    let glance_at = c.glance_at-g in
    let put_if = c.put_if-m in
    let v = walked t at-now inv.0 glance_at.result inv.1 loop-test.true glance_at.ensures in
    let e = heads_on t at-now inv.0 glance_at.result v in (
      v.step.others,
      v.rest,
      fill_on (cond (eqb (kind_of glance_at.result.head) 1) (at-now ∷ []) []) _ inv.2 e (rw c.is_target.ensures at put_if.ensures),
    )

-- m
pub shape_of-heads : goal.shape_of-heads
unfolding head_offsets heads_of
shape_of-heads c =
    let pre = c.requires in
    c.loop-at.invariant.2.sized ∙ sym pre.2

-- m
pub returns : goal.returns
unfolding head_offsets heads_of
returns c =
    let t = c.args.t.now in
    let loop = c.loop-at in
    let inv = loop.invariant in
    let f = fill_end inv.2 (heads_end t loop.at inv.0 inv.1 c.loop-at-test.false) in
    (f.0, omega (arith, f.1, heads_few t c.requires.0), inv.2.sized)

pub glance_at-g-requires : goal.glance_at-g-requires
unfolding head_offsets heads_of
glance_at-g-requires c = search rules
