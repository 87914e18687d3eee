-- The steps of rewrite: letters, the pair found, its form.
use Prim.Native.Nat.{ℕ, ◌≤◌, ◌<◌}
use mathlib.Core.Path.{◌≡◌, refl, sym, ap, ap₂, ◌∙◌}
use mathlib.Core.Bool.{Bool, true, false, not, ◌||◌, cond}
use mathlib.Core.List.{List}
use mathlib.Core.Option.{Option, none, some}
use native.Mathlib.Omega.{arith}
use lib.ListN.{length}
use Rattle.std.specs.Prelude.{Option as RustOption, Some, None}
use lib.Dec.{eqb}
use borrow.Author.Tests.{lt-ltb, le-ltb, not-false}
use Rattle.xliff.specs.Bytes.{'P', 'S', 'T', Bytes, among}
use Rattle.xliff.specs.Item.{form_P, form_S, is_form_P}
use Rattle.xliff.specs.Parse.{unit}
use Rattle.xliff.specs.Check.{too_large}
use Rattle.xliff.specs.Rewrite.{form_of, rewrite_unit, side_sequence, Whole, find_whole, unfit_letter, already}
use Rattle.xliff.proofs.lists.Tests.{or_none, or_left}
use Rattle.whole_pair.specs.declared.WholePair.{WholePair}
use Rattle.whole_pair.specs.Pairs.{pair_of}
use Rattle.rewrite_refusals.specs.Asked.{bad_letters, SomeAsked}
use Rattle.rewrite_refusals.proofs.ResultLaws.{room_only}
use Rattle.rewrite.specs.Paired.{Ready, Paired, already_in}

pub letters_are : (side w : ℕ) → not (eqb side 'S' || eqb side 'T') || not (eqb w 'P' || eqb w 'S') ≡ bad_letters side w
unfolding among
letters_are side w =
    ap₂ (λ (a b : Bool). not (eqb side 'S' || a) || not (eqb w 'P' || b)) (sym (or_none (eqb side 'T'))) (sym (or_none (eqb w 'S')))

module _ (t : List ℕ) (side i w : ℕ) (r : Ready t side w) (found : RustOption WholePair)
    (f : found ≡ pair_of (find_whole i (side_sequence side (unit t).parts))) where
  pub pair_missing : found ≡ None → find_whole i (side_sequence side (unit t).parts) ≡ none
  unfolding pair_of
  pair_missing e = by (find_whole i (side_sequence side (unit t).parts)) (sym e ∙ f)
    where
      by : (o : Option Whole) → None ≡ pair_of o → o ≡ none
      by none k = refl
      by (some p) k = cc

  pub pair_complete : (v : WholePair) → found ≡ Some v → Paired t side i w v
  unfolding pair_of
  pair_complete v e = by (find_whole i (side_sequence side (unit t).parts)) refl (sym e ∙ f)
    where
      by : (o : Option Whole) → find_whole i (side_sequence side (unit t).parts) ≡ o → Some v ≡ pair_of o → Paired t side i w v
      by none h k = cc
      by (some p) h k =
          let same : v ≡ record { form_p = is_form_P p.start; unfit = unfit_letter p } = cc in
          record { ready = r; pair = p; found = h; form = ap (λ (x : WholePair). x.form_p) same; letter = ap (λ (x : WholePair). x.unfit) same }

module _ {t : List ℕ} {side i w : ℕ} {v : WholePair} (q : Paired t side i w v) where
  pub already_is : already_in w v.form_p ≡ already (form_of w) q.pair.start
  unfolding already form_of
  already_is = ap (already_in w) q.form ∙ by (eqb w 'P')
    where
      by : (b : Bool) → cond b (is_form_P q.pair.start) (not (is_form_P q.pair.start)) ≡ already (cond b form_P form_S) q.pair.start
      by true = refl
      by false = refl

  pub asked : Bytes t → already_in w v.form_p ≡ false → SomeAsked t side i (form_of w) v.unfit
  asked b a = (
    q.pair,
    record { bytes = b; valid = q.ready.0; letter = not-false _ (or_left _ _ q.ready.1); found = q.found; other_form = sym already_is ∙ a },
    q.letter,
  )

  module _ (b : Bytes t) (room : ℕ) where
    pub no_room : room < length t → too_large room (rewrite_unit (unit t) side i (form_of w)) ≡ true
    no_room h = room_only t b q.ready.0 side i (form_of w) room ∙ lt-ltb room (length t) h

    pub enough_room : length t ≤ room → too_large room (rewrite_unit (unit t) side i (form_of w)) ≡ false
    enough_room h = room_only t b q.ready.0 side i (form_of w) room ∙ le-ltb room (length t) h
