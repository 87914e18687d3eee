-- 21 as the code decides it.
use Prim.Native.Nat.{ℕ, ◌≤◌}
use mathlib.Core.Path.{Path, ◌≡◌, sym, ap, ap₂, ◌∙◌, subst}
use mathlib.Core.Bool.{Bool, true, false, ◌||◌}
use mathlib.Core.List.{List}
use mathlib.Core.Option.{Option, some}
use native.Mathlib.Omega.{arith}
use lib.ListN.{length, take, drop, length-append}
use lib.Seq.{take-append_seam}
use borrow.Author.Tests.{eq-eqb, ne_eqb}
use Rattle.xliff.specs.Bytes.{'P'}
use Rattle.xliff.specs.Answer.{is_fault}
use Rattle.xliff.specs.Item.{Form, form_P, form_S}
use Rattle.xliff.specs.Encode.{encode}
use Rattle.xliff.specs.Parse.{unit, most_bytes}
use Rattle.xliff.specs.Rules.{fault_7}
use Rattle.xliff.specs.Rewrite.{form_of, rewrite_unit, side_sequence, Whole, find_whole, unfit_letter}
use Rattle.xliff.proofs.lists.Tests.{or-true, or_none}
use Rattle.places.specs.Passes.{Passes}
use Rattle.writer.specs.Pieces.{lead}
use Rattle.result_rules.proofs.GoodLaws.{result_passes}
use Rattle.rewrite_marks.proofs.LengthLaws.{length_kept}
use Rattle.rewrite_refusals.specs.Asked.{apart, fails_to_P, Asked, SomeAsked, Fitting, Refused21}
use Rattle.places.proofs.Places.{checked_passes}
use Rattle.xliff.proofs.unit.Result.{small_table}
use Rattle.rewrite_refusals.proofs.ResultLaws.{good_unit, apart_is}

-- the table rewritten aside
module _ (t : List ℕ) (side i : ℕ) (p : Whole) (a : Asked t side i form_P p) (u : unfit_letter p ≡ false) (n : ℕ) (out last : List ℕ)
    (e : n ≡ length (encode (rewrite_unit (unit t) side i (form_of 'P')))) (l : last ≡ lead (encode (rewrite_unit (unit t) side i (form_of 'P'))) out) where
  abbrev aside : List ℕ
  aside = encode (rewrite_unit (unit t) side i form_P)

  taken : take n last ≡ aside
  unfolding form_of
  taken = ap₂ {C = List ℕ} take e l ∙ take-append_seam aside (drop (length aside) out)

  pub fits_aside : n ≤ length last
  unfolding form_of
  fits_aside = omega (arith, e, ap length l, length-append aside (drop (length aside) out))

  pub aside_passes : Passes (take n last) × (length (take n last) ≤ most_bytes)
  aside_passes = (
    subst Passes (sym taken) (result_passes (rewrite_unit (unit t) side i form_P) (good_unit t a.bytes a.valid side i form_P)),
    omega (arith, ap length taken, length_kept i form_P t side (checked_passes t a.bytes a.valid), small_table t a.valid),
  )

  pub aside_judged : is_fault (fault_7 (unit (take n last)).parts) ≡ apart (unit t) side i
  aside_judged = ap (λ (s : List ℕ). is_fault (fault_7 (unit s).parts)) taken ∙ apart_is t side i p a u

some_same : {A : Type 0} {x y : A} → Path (Option A) (some x) (some y) → x ≡ y
some_same e = cc

to_P : (w : ℕ) → w ≡ 'P' → form_of w ≡ form_P
unfolding form_of
to_P w e = rw (eq-eqb w 'P' e)

to_S : (w : ℕ) → (w ≡ 'P' → ⊥) → form_of w ≡ form_S
unfolding form_of
to_S w e = rw (ne_eqb w 'P' e)

module _ (t : List ℕ) (side i w : ℕ) (unfit : Bool) (s : SomeAsked t side i (form_of w) unfit) where
  same : (p : Whole) → find_whole i (side_sequence side (unit t).parts) ≡ some p → unfit ≡ unfit_letter p
  same p h = let (q, a, e) = s in e ∙ ap unfit_letter (some_same (sym a.found ∙ h))

  by_tests : w ≡ 'P' → (p : Whole) → find_whole i (side_sequence side (unit t).parts) ≡ some p → fails_to_P (unit t) side i (form_of w) p ≡ apart (unit t) side i || unfit
  unfolding fails_to_P
  by_tests e p h = ap (λ (f : Form). fails_to_P (unit t) side i f p) (to_P w e) ∙ ap (λ (b : Bool). apart (unit t) side i || b) (sym (same p h))

  pub unfit_refused : w ≡ 'P' → unfit ≡ true → Refused21 t side i (form_of w) true
  unfit_refused e k = λ p h. sym (by_tests e p h ∙ ap (λ (b : Bool). apart (unit t) side i || b) k ∙ or-true (apart (unit t) side i))

  pub fitting : w ≡ 'P' → unfit ≡ false → Fitting t side i
  fitting e k = let (q, a, h) = s in (q, subst (λ (f : Form). Asked t side i f q) (to_P w e) a, sym h ∙ k)

  pub apart_refused : w ≡ 'P' → unfit ≡ false → (r : Bool) → r ≡ apart (unit t) side i → Refused21 t side i (form_of w) r
  apart_refused e k r f = λ p h. f ∙ sym (by_tests e p h ∙ ap (λ (b : Bool). apart (unit t) side i || b) k ∙ or_none (apart (unit t) side i))

  pub never_refused : (w ≡ 'P' → ⊥) → Refused21 t side i (form_of w) false
  unfolding fails_to_P
  never_refused e = λ p h. sym (ap (λ (f : Form). fails_to_P (unit t) side i f p) (to_S w e))
