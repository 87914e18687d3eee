use lib.ListN.{length-take}
use lib.ListN.{length, drop, set, length-set}
use Prim.Native.Nat.{ℕ, ◌-◌, ◌/◌}
use mathlib.Core.List.{List}
use mathlib.Core.Path.{refl, sym, ap, ◌∙◌}
use native.Mathlib.Omega.{arith}
use Rattle.writer.specs.Pieces.{lead}
use Rattle.xliff.specs.Desk.{digits as spell-digits, decimal}
use Rattle.lines.proofs.LineLaws.{digit_more, digits_there}
use borrow.Author.Rules.{rules}
use Rattle.lines.proofs.put_decimal.Goals as goal

-- the loop's start
pub loop-m-init : goal.loop-m-init
unfolding decimal
loop-m-init c = (omega arith, omega arith, omega (arith, c.ranges), refl, refl)

-- the loop's step
pub loop-m-preserved : goal.loop-m-preserved
unfolding decimal
loop-m-preserved c =
    let loop = c.loop-m in
    let digits = loop.digits in
    let k = loop.k in
    let inv = loop.invariant in
    let e = digit_more digits k loop.m inv.1 (omega (arith, inv.0, inv.3)) c.loop-m-test.true
    inv.2 in (
      omega (arith, inv.0),
      e.1,
      e.2,
      length-set digits (k - 1) _ ∙ inv.3,
      inv.4
          ∙ e.0
          ∙ ap (λ (v : ℕ). spell-digits (k - 1) (loop.m / 10) (drop (k - 1) (set digits (k - 1) v)))
          (sym c.digit.ensures),
    )

-- &digits[k..]
pub slice_bounds-put-end : goal.slice_bounds-put-end
unfolding decimal
slice_bounds-put-end c =
    let loop = c.loop-m in
    omega (arith, length-set loop.digits (loop.k - 1) c.digit-2.result, loop.invariant.3)

-- writer::put(out, &digits[k..])
pub returns : goal.returns
unfolding decimal
returns c =
    let args = c.args in
    let loop = c.loop-m in
    let k = loop.k in
    let digits = loop.digits in
    let inv = loop.invariant in
    let loop-test = c.loop-m-test in
    let digit2 = c.digit-2 in
    let put = c.put in
    let w = digits_there digits k loop.m digit2.result inv.1 inv.0 inv.3 loop-test.false digit2.ensures ∙ sym inv.4 in (
      put.ensures.0 ∙ ap length w,
      put.ensures.1 ∙ ap (λ (l : List ℕ). lead l args.out.now) w,
      omega (arith, put.ensures.0, length-take (20 - (k - 1)) (drop (k - 1) (set digits (k - 1) digit2.result))),
    )
