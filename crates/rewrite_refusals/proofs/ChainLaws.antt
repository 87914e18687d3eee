-- The refusals of rewrite, one after the other.
use Prim.Native.Nat.{ℕ}
use mathlib.Core.Path.{◌≡◌, refl, ap, ◌∙◌}
use mathlib.Core.Bool.{Bool, true, false}
use mathlib.Core.List.{List}
use mathlib.Core.Option.{Option, none, some}
use Rattle.xliff.specs.Answer.{Refusal, applies, ◌then◌, result, refuse, unless}
use Rattle.xliff.specs.Item.{Form, form_P, form_S}
use Rattle.xliff.specs.Unit.{XliffUnit}
use Rattle.xliff.specs.Encode.{encode}
use Rattle.xliff.specs.Parse.{unit}
use Rattle.xliff.specs.Check.{table_refusal, too_large}
use Rattle.xliff.specs.Rewrite.{form_of, rewrite_unit, side_sequence, Whole, find_whole, to_P_refusal, already, pair_refusal, rewrite_refusal, rewrite}
use Rattle.outcomes.proofs.OutcomeLaws.{on_passed, applied, passed, then_assoc}
use Rattle.rewrite_refusals.specs.Asked.{bad_letters, apart, fails_to_P}

refusal_21 : (u : XliffUnit) (side i : ℕ) (w : Form) (p : Whole) → to_P_refusal u side i w p ≡ applies 21 (fails_to_P u side i w p)
unfolding to_P_refusal fails_to_P apart applies
refusal_21 u side i form_S p = refl
refusal_21 u side i form_P p = refl

module _ (t : List ℕ) (side i w room : ℕ) (e : table_refusal t ≡ none) where
  large : Bool
  large = too_large room (rewrite_unit (unit t) side i (form_of w))

  bytes : List ℕ
  bytes = encode (rewrite_unit (unit t) side i (form_of w))

  pair : Option Whole → Option Refusal
  pair o = pair_refusal (unit t) side i (form_of w) o

  chain : rewrite t side i w room ≡ unless (applies 2 (bad_letters side w) then (pair (find_whole i (side_sequence side (unit t).parts)) then applies 15 large)) bytes
  unfolding rewrite rewrite_refusal large bytes pair
  chain =
      on_passed t (rewrite_refusal (unit t) side i w then applies 15 (too_large room (rewrite_unit (unit t) side i (form_of w)))) (rewrite_unit (unit t) side i (form_of w)) e
      ∙ ap (λ (o : Option Refusal). unless o (encode (rewrite_unit (unit t) side i (form_of w))))
      (then_assoc (applies 2 (bad_letters side w)) (pair_refusal (unit t) side i (form_of w) (find_whole i (side_sequence side (unit t).parts)))
      (applies 15 (too_large room (rewrite_unit (unit t) side i (form_of w)))))

  pub refused_2 : bad_letters side w ≡ true → rewrite t side i w room ≡ refuse (record { number = 2; place = 0 })
  refused_2 x = chain ∙ applied 2 (bad_letters side w) _ bytes x

  module _ (x : bad_letters side w ≡ false) where
    after_2 : (o : Option Whole) → find_whole i (side_sequence side (unit t).parts) ≡ o → rewrite t side i w room ≡ unless (pair o then applies 15 large) bytes
    after_2 o h =
        chain ∙ ap (λ (r : Option Refusal). unless r bytes) (passed 2 (bad_letters side w) _ x)
        ∙ ap (λ (q : Option Whole). unless (pair q then applies 15 large) bytes) h

    pub no_pair : find_whole i (side_sequence side (unit t).parts) ≡ none → rewrite t side i w room ≡ refuse (record { number = 20; place = 0 })
    unfolding pair pair_refusal
    no_pair h = after_2 none h ∙ applied 20 true (applies 15 large) bytes refl

    module _ (p : Whole) (h : find_whole i (side_sequence side (unit t).parts) ≡ some p) where
      fails : Bool
      fails = fails_to_P (unit t) side i (form_of w) p

      tried : rewrite t side i w room ≡ unless (applies 20 (already (form_of w) p.start) then (applies 21 fails then applies 15 large)) bytes
      unfolding pair pair_refusal fails
      tried =
          after_2 (some p) h
          ∙ ap (λ (o : Option Refusal). unless o bytes)
          (then_assoc (applies 20 (already (form_of w) p.start)) (to_P_refusal (unit t) side i (form_of w) p) (applies 15 large)
          ∙ ap (λ (o : Option Refusal). applies 20 (already (form_of w) p.start) then (o then applies 15 large)) (refusal_21 (unit t) side i (form_of w) p))

      pub refused_20 : already (form_of w) p.start ≡ true → rewrite t side i w room ≡ refuse (record { number = 20; place = 0 })
      refused_20 y = tried ∙ applied 20 (already (form_of w) p.start) _ bytes y

      module _ (y : already (form_of w) p.start ≡ false) where
        after_20 : rewrite t side i w room ≡ unless (applies 21 fails then applies 15 large) bytes
        after_20 = tried ∙ ap (λ (o : Option Refusal). unless o bytes) (passed 20 (already (form_of w) p.start) _ y)

        pub refused_21 : fails_to_P (unit t) side i (form_of w) p ≡ true → rewrite t side i w room ≡ refuse (record { number = 21; place = 0 })
        unfolding fails
        refused_21 z = after_20 ∙ applied 21 fails (applies 15 large) bytes z

        module _ (z : fails_to_P (unit t) side i (form_of w) p ≡ false) where
          after_21 : rewrite t side i w room ≡ unless (applies 15 large) bytes
          unfolding fails
          after_21 = after_20 ∙ ap (λ (o : Option Refusal). unless o bytes) (passed 21 fails (applies 15 large) z)

          pub refused_15 : too_large room (rewrite_unit (unit t) side i (form_of w)) ≡ true → rewrite t side i w room ≡ refuse (record { number = 15; place = 0 })
          unfolding applies unless large
          refused_15 k = after_21 ∙ ap (λ (c : Bool). unless (applies 15 c) bytes) k

          pub done : too_large room (rewrite_unit (unit t) side i (form_of w)) ≡ false → rewrite t side i w room ≡ result (encode (rewrite_unit (unit t) side i (form_of w)))
          unfolding applies unless large bytes
          done k = after_21 ∙ ap (λ (c : Bool). unless (applies 15 c) bytes) k
