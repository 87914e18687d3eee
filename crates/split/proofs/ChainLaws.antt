-- The refusals of split, one after the other.
use Prim.Native.Nat.{ℕ}
use mathlib.Core.Path.{◌≡◌, refl, ap, ◌∙◌}
use mathlib.Core.Bool.{Bool, true, false}
use mathlib.Core.List.{List}
use mathlib.Core.Option.{Option, none}
use Rattle.xliff.specs.Answer.{Refusal, applies, ◌then◌, Outcome, result, refuse, unless}
use Rattle.xliff.specs.Unit.{Part, XliffUnit, is_closed}
use Rattle.xliff.specs.Encode.{encode}
use Rattle.xliff.specs.Parse.{unit}
use Rattle.xliff.specs.Check.{table_refusal, too_large}
use Rattle.xliff.specs.Focus.{Focus, nowhere, here, focus}
use Rattle.xliff.specs.Split.{split, split_unit, split_refusal, bad_cut, accent_parted, id_taken}
use Rattle.outcomes.proofs.OutcomeLaws.{on_passed, applied, passed, then_assoc}

module _ (t : List ℕ) (n source_cut target_cut id room : ℕ) (e : table_refusal t ≡ none) where
  -- what is asked, the unit that it would leave, and its bytes
  abbrev asked : Outcome
  asked = split t n source_cut target_cut id room

  abbrev left : XliffUnit
  left = split_unit (unit t) n source_cut target_cut id

  large : Bool
  large = too_large room left

  bytes : List ℕ
  bytes = encode left

  on_focus : (f : Focus) → focus (unit t).parts n ≡ f
      → asked ≡ unless (split_refusal (unit t) source_cut target_cut id f then applies 15 large) bytes
  unfolding split large bytes
  on_focus f h =
      let refusals : Focus → Option Refusal =
      λ g. split_refusal (unit t) source_cut target_cut id g then applies 15 (too_large room left) in
      on_passed t (refusals (focus (unit t).parts n)) left e
      ∙ ap (λ (g : Focus). unless (refusals g) (encode left)) h

  pub no_part : focus (unit t).parts n ≡ nowhere → asked ≡ refuse (record { number = 11; place = 0 })
  unfolding split_refusal
  no_part h = on_focus nowhere h ∙ applied 11 true (applies 15 large) bytes refl

  -- the tests of the refusals behind 11, of the part p
  module _ (b : List Part) (p : Part) (a : List Part) (h : focus (unit t).parts n ≡ here b p a) where
    abbrev closed : Bool
    closed = is_closed (unit t).opening.can_resegment p

    abbrev bad : Bool
    bad = bad_cut p source_cut target_cut

    abbrev parted : Bool
    parted = accent_parted p source_cut target_cut

    abbrev taken : Bool
    taken = id_taken (unit t).parts id

    chain : asked
        ≡ unless (applies 12 closed then (applies 13 bad
        then (applies 23 parted then (applies 14 taken then applies 15 large)))) bytes
    unfolding split_refusal
    chain =
        on_focus (here b p a) h
        ∙ ap (λ (o : Option Refusal). unless o bytes)
        (then_assoc (applies 12 closed) (applies 13 bad then applies 23 parted then applies 14 taken) (applies 15 large)
        ∙ ap (λ (o : Option Refusal). applies 12 closed then o)
        (then_assoc (applies 13 bad) (applies 23 parted then applies 14 taken) (applies 15 large)
        ∙ ap (λ (o : Option Refusal). applies 13 bad then o)
        (then_assoc (applies 23 parted) (applies 14 taken) (applies 15 large))))

    pub refused_12 : closed ≡ true → asked ≡ refuse (record { number = 12; place = 0 })
    refused_12 x = chain ∙ applied 12 closed _ bytes x

    after_12 : closed ≡ false
        → asked ≡ unless (applies 13 bad then (applies 23 parted then (applies 14 taken then applies 15 large))) bytes
    after_12 x = chain ∙ ap (λ (o : Option Refusal). unless o bytes) (passed 12 closed _ x)

    pub refused_13 : closed ≡ false → bad ≡ true → asked ≡ refuse (record { number = 13; place = 0 })
    refused_13 x y = after_12 x ∙ applied 13 bad _ bytes y

    after_13 : closed ≡ false → bad ≡ false
        → asked ≡ unless (applies 23 parted then (applies 14 taken then applies 15 large)) bytes
    after_13 x y = after_12 x ∙ ap (λ (o : Option Refusal). unless o bytes) (passed 13 bad _ y)

    pub refused_23 : closed ≡ false → bad ≡ false → parted ≡ true
        → asked ≡ refuse (record { number = 23; place = 0 })
    refused_23 x y z = after_13 x y ∙ applied 23 parted _ bytes z

    after_23 : closed ≡ false → bad ≡ false → parted ≡ false
        → asked ≡ unless (applies 14 taken then applies 15 large) bytes
    after_23 x y z = after_13 x y ∙ ap (λ (o : Option Refusal). unless o bytes) (passed 23 parted _ z)

    pub refused_14 : closed ≡ false → bad ≡ false → parted ≡ false → taken ≡ true
        → asked ≡ refuse (record { number = 14; place = 0 })
    refused_14 x y z w = after_23 x y z ∙ applied 14 taken _ bytes w

    after_14 : closed ≡ false → bad ≡ false → parted ≡ false → taken ≡ false
        → asked ≡ unless (applies 15 large) bytes
    after_14 x y z w = after_23 x y z ∙ ap (λ (o : Option Refusal). unless o bytes) (passed 14 taken _ w)

    pub refused_15 : closed ≡ false → bad ≡ false → parted ≡ false → taken ≡ false
        → too_large room left ≡ true
        → asked ≡ refuse (record { number = 15; place = 0 })
    unfolding applies unless large
    refused_15 x y z w l = after_14 x y z w ∙ ap (λ (c : Bool). unless (applies 15 c) bytes) l

    pub done : closed ≡ false → bad ≡ false → parted ≡ false → taken ≡ false
        → too_large room left ≡ false
        → asked ≡ result (encode left)
    unfolding applies unless large bytes
    done x y z w l = after_14 x y z w ∙ ap (λ (c : Bool). unless (applies 15 c) bytes) l
