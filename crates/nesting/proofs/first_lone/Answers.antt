use Rattle.nesting.proofs.BarLaws.{lone_left, lone_start, lone_on, lone_end, as_many}
use Rattle.std.specs.Prelude.{ℕ, Option}
use Rattle.answers.specs.Answers.{toward}
use mathlib.Core.Path.{refl, sym, ◌∙◌, ap}
use Prim.Native.Nat.{◌+◌}
use native.Mathlib.Omega.{arith}
use Rattle.nesting.proofs.first_lone.Goals as goal

-- the loop's start
pub loop-i-init : goal.loop-i-init
loop-i-init c =
    let pre = c.requires in
    (omega arith, refl, lone_start c.args.t.now c.args.bars.markers.now pre.0 pre.1)

-- &mut stack
pub slice_bounds-is_lone-end : goal.slice_bounds-is_lone-end
slice_bounds-is_lone-end c = sym c.loop-i.invariant.1

-- is_lone(keys, i, &mut stack)
pub is_lone-lone-requires : goal.is_lone-lone-requires
is_lone-lone-requires c =
    let args = c.args in
    let t = args.t.now in
    let markers = args.bars.markers.now in
    let keys = args.bars.keys.now in
    let pre = c.requires in (
      omega (arith, c.loop-i-test.true, as_many t markers keys pre.2),
      omega (arith, as_many t markers keys pre.2, pre.3),
      c.loop-i.invariant.1,
    )

-- the loop's step
pub loop-i-preserved : goal.loop-i-preserved
loop-i-preserved c =
    let args = c.args in
    let t = args.t.now in
    let markers = args.bars.markers.now in
    let loop = c.loop-i in
    let loop-test = c.loop-i-test in
    let is-lone = c.is_lone-lone in
    let wide = c.wide in (
      omega (arith, loop-test.true),
      is-lone.ensures.1,
      loop.invariant.2
          ∙ lone_on t markers args.bars.keys.now c.requires.2 loop.i loop.best is-lone.result wide.result
          loop-test.true is-lone.ensures.0 wide.ensures.0
          ∙ ap (λ (p : Option ℕ). toward 7 p (lone_left t markers (loop.i + 1))) (sym c.lower_if-best.ensures),
    )

-- best
pub returns : goal.returns
returns c =
    let args = c.args in
    let loop = c.loop-i in
    lone_end args.t.now args.bars.markers.now args.bars.keys.now c.requires.2 loop.i loop.best
    c.loop-i-test.false loop.invariant.2
