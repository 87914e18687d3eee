use Rattle.xliff.proofs.lists.Slices.{tail_is}
use Rattle.partners.proofs.ScanLaws.{lone_not, lone_start, lone_end}
use borrow.Author.Tests.{eq-eqb, ne_eqb}
use lib.ListN.{take, drop, get_or, length-take}
use mathlib.Core.Path.{sym, ◌∙◌, ap}
use mathlib.Core.List.{reverse}
use mathlib.Core.Bool.{not}
use native.Mathlib.Omega.{arith}
use Prim.Native.Nat.{◌+◌}
use Rattle.partners.proofs.lone_s.Goals as goal

-- return false
pub returns-then-half_of-is_form_p : goal.returns-then-half_of-is_form_p
returns-then-half_of-is_form_p c =
    sym
    (lone_not _ _ _ (rw (c.half_of.ensures, c.is_form_p.ensures) at c.if-half_of-is_form_p.true))

-- return !partner_after(&keys[i + 1..], k)
pub returns-then-half_of-eq1 : goal.returns-then-half_of-eq1
returns-then-half_of-eq1 c =
    let args = c.args in
    let i = args.i in
    let keys = args.keys.now in
    let half_of = c.half_of in
    let is-form-p = c.is_form_p in
    let if1 = c.if-half_of-is_form_p in
    let half-of2 = c.half_of-2 in
    sym (lone_start (reverse (take i keys)) (get_or keys i 0) (drop (i + 1) keys)
    (rw (half_of.ensures, is-form-p.ensures) at if1.false)
    (rw half-of2.ensures at (eq-eqb _ _ c.if-half_of-eq1.true))
    ∙ ap not (sym (simp tail_is at c.partner_after.ensures)))

-- &keys[..i]
pub slice_bounds-partner_before-end : goal.slice_bounds-partner_before-end
slice_bounds-partner_before-end c =
    let args = c.args in
    omega (arith, length-take args.i args.keys.now)

-- !partner_before(&keys[..i], k)
pub returns : goal.returns
returns c =
    let args = c.args in
    let i = args.i in
    let keys = args.keys.now in
    let half_of = c.half_of in
    let is-form-p = c.is_form_p in
    let if1 = c.if-half_of-is_form_p in
    let half-of2 = c.half_of-2 in
    sym (lone_end (reverse (take i keys)) (get_or keys i 0) (drop (i + 1) keys)
    (rw (half_of.ensures, is-form-p.ensures) at if1.false)
    (rw half-of2.ensures at (ne_eqb _ _ c.if-half_of-eq1.false))
    ∙ ap not (sym c.partner_before.ensures))
