use Rattle.sequences.proofs.GlanceLaws.{source_marks, sources_on}
use Rattle.sequences.proofs.MarkLaws.{source_room, marks_end}
use Rattle.sequences.specs.Marks.{offsets}
use Rattle.sequences.proofs.FillLaws.{fill_room, fill_on, fill_end}
use Rattle.orders.proofs.WalkLaws.{walked}
use Rattle.places.proofs.Places.{at_start}
use Rattle.xliff.specs.Encode.{unit_records}
use Rattle.xliff.specs.Parse.{unit}
use native.Mathlib.Omega.{arith}
use mathlib.Core.Path.{refl, sym, ◌∙◌, ap}
use mathlib.Core.List.{[], ◌∷◌, ◌++◌}
use mathlib.Core.Bool.{Bool, true, cond, ◌&&◌}
use Prim.Native.Nat.{◌+◌}
use borrow.Author.Rules.{rules}
use Rattle.sequences.proofs.sources.Goals as goal

-- the loop's start
pub loop-at-init : goal.loop-at-init
unfolding offsets
loop-at-init c =
    let t = c.args.t.now in
    let pre = c.requires in
    (unit_records (unit t), at_start t pre.0, record { sized = pre.2; all = refl; count = omega arith })

-- at as u16
pub overflow_cast-at : goal.overflow_cast-at
unfolding offsets
overflow_cast-at c =
    let pre = c.requires in
    let loop-test = c.loop-at-test in
    omega (arith, loop-test.true, pre.1)

-- put_if(inside & g.marker, out, m, at as u16)
pub put_if-m-requires : goal.put_if-m-requires
unfolding offsets
put_if-m-requires c =
    let t = c.args.t.now in
    let loop = c.loop-at in
    let at-now = loop.at in
    let inv = loop.invariant in
    let loop-test = c.loop-at-test in
    let glance_at = c.glance_at-g in
    let v = walked t at-now inv.0 glance_at.result inv.1 loop-test.true glance_at.ensures in
    let e = sources_on t at-now inv.0 glance_at.result v loop.inside in (
      fill_room (cond (loop.inside && glance_at.result.marker) (at-now ∷ []) []) _ inv.2 e
          (source_room t c.requires.0),
      omega (arith, inv.2.sized),
    )

-- at += g.width
pub overflow_add-at : goal.overflow_add-at
unfolding offsets
overflow_add-at c =
    let t = c.args.t.now in
    let loop = c.loop-at in
    let loop-test = c.loop-at-test in
    let glance_at = c.glance_at-g in
    let v = walked t loop.at loop.invariant.0 glance_at.result loop.invariant.1 loop-test.true
    glance_at.ensures in
    omega (arith, v.fits)

-- the loop ends
pub loop-at-smaller : goal.loop-at-smaller
unfolding offsets
loop-at-smaller c =
    let t = c.args.t.now in
    let loop = c.loop-at in
    let loop-test = c.loop-at-test in
    let glance_at = c.glance_at-g in
    let v = walked t loop.at loop.invariant.0 glance_at.result loop.invariant.1 loop-test.true
    glance_at.ensures in
    omega (arith, v.fits, v.moves)

-- the loop's step
pub loop-at-preserved : goal.loop-at-preserved
unfolding offsets
loop-at-preserved c =
    let t = c.args.t.now in
    let loop = c.loop-at in
    let at-now = loop.at in
    let inv = loop.invariant in
    let inside = loop.inside in
    let loop-test = c.loop-at-test in
    let glance_at = c.glance_at-g in
    let the-cond = cond (inside && glance_at.result.marker) (at-now ∷ []) [] in
    let put_if = c.put_if-m in
    let v = walked t at-now inv.0 glance_at.result inv.1 loop-test.true glance_at.ensures in
    let e = sources_on t at-now inv.0 glance_at.result v inside in (
      v.step.others,
      v.rest,
      fill_on the-cond _ inv.2 (e
          ∙ ap (λ (b : Bool). the-cond ++ source_marks b (at-now + glance_at.result.width) v.step.others)
          (sym c.inside_source-inside.ensures)) put_if.ensures,
    )

-- m
pub shape_of-out : goal.shape_of-out
unfolding offsets
shape_of-out c =
    let pre = c.requires in
    c.loop-at.invariant.2.sized ∙ sym pre.2

-- m
pub returns : goal.returns
unfolding offsets
returns c =
    let t = c.args.t.now in
    let loop = c.loop-at in
    let inv = loop.invariant in
    let f = fill_end inv.2
    (marks_end t loop.at inv.0 true 0 loop.inside inv.1 c.loop-at-test.false) in
    (f.0, omega (arith, f.1, source_room t c.requires.0), inv.2.sized)

pub glance_at-g-requires : goal.glance_at-g-requires
unfolding offsets
glance_at-g-requires c = search rules

pub inside_source-inside-requires : goal.inside_source-inside-requires
unfolding offsets
inside_source-inside-requires c = search rules
