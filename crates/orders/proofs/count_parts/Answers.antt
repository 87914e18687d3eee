use Rattle.orders.proofs.WalkLaws.{walked, parts_walked, parts_end}
use Rattle.places.proofs.Places.{at_start}
use Rattle.xliff.specs.Encode.{unit_records}
use Rattle.xliff.specs.Parse.{unit}
use native.Mathlib.Omega.{arith}
use Prim.Native.Nat.{ℕ, ◌≤◌}
use mathlib.Core.Path.{◌≡◌, refl, ap, ◌∙◌}
use mathlib.Core.Bool.{Bool, true, false, cond}
use mir.Val.{bool_byte}
use Rattle.orders.proofs.count_parts.Goals as goal

one_if : (b : Bool) → bool_byte b ≡ cond {A = ℕ} b 1 0
one_if true = refl
one_if false = refl

at_most_one : (b : Bool) → bool_byte b ≤ 1
at_most_one true = omega arith
at_most_one false = omega arith

-- the loop's start
pub loop-at-init : goal.loop-at-init
loop-at-init c =
    let t = c.args.t.now in
    (unit_records (unit t), at_start t c.requires, omega arith)

-- n += usize::from(g.head.is_part())
pub overflow_add-n : goal.overflow_add-n
overflow_add-n c =
    let pre = c.requires in
    let loop = c.loop-at in
    omega (arith, loop.invariant.2, pre.few_parts, c.from-n.ensures, at_most_one c.is_part.result)

-- at += g.width
pub overflow_add-at : goal.overflow_add-at
overflow_add-at c =
    let t = c.args.t.now in
    let loop = c.loop-at in
    let loop-test = c.loop-at-test in
    let glance_at = c.glance_at-g in
    let v = walked t loop.at loop.invariant.0 glance_at.result loop.invariant.1 loop-test.true
    glance_at.ensures in
    omega (arith, v.fits)

-- the loop ends
pub loop-at-smaller : goal.loop-at-smaller
loop-at-smaller c =
    let t = c.args.t.now in
    let loop = c.loop-at in
    let loop-test = c.loop-at-test in
    let glance_at = c.glance_at-g in
    let v = walked t loop.at loop.invariant.0 glance_at.result loop.invariant.1 loop-test.true
    glance_at.ensures in
    omega (arith, v.fits, v.moves)

-- the loop's step
pub loop-at-preserved : goal.loop-at-preserved
loop-at-preserved c =
    let t = c.args.t.now in
    let loop = c.loop-at in
    let inv = loop.invariant in
    let loop-test = c.loop-at-test in
    let glance_at = c.glance_at-g in
    let counted = c.from-n.ensures ∙ one_if c.is_part.result ∙ ap (λ (b : Bool). cond {A = ℕ} b 1 0) c.is_part.ensures in
    let v = walked t loop.at inv.0 glance_at.result inv.1 loop-test.true glance_at.ensures in (
      v.step.others,
      v.rest,
      omega (arith, inv.2, parts_walked t loop.at inv.0 glance_at.result v, counted),
    )

-- n
pub returns : goal.returns
returns c =
    let t = c.args.t.now in
    let loop = c.loop-at in
    let inv = loop.invariant in
    parts_end t loop.at loop.n inv.0 inv.1 c.loop-at-test.false inv.2
