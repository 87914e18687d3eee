-- The refusals of set target, one after the other.
use Prim.Native.Nat.{ℕ}
use mathlib.Core.Path.{◌≡◌, refl, ap, ◌∙◌}
use mathlib.Core.Bool.{Bool, true, false, not}
use mathlib.Core.List.{List}
use mathlib.Core.Option.{Option, none}
use Rattle.xliff.specs.Bytes.{any}
use Rattle.xliff.specs.Answer.{Refusal, refusal, applies, ◌then◌, of_result, refuse, unless}
use Rattle.xliff.specs.Item.{Content}
use Rattle.xliff.specs.Unit.{Part, XliffUnit}
use Rattle.xliff.specs.Encode.{encode}
use Rattle.xliff.specs.Parse.{unit, content, content_fault}
use Rattle.xliff.specs.Rules.{fault_6_to_10}
use Rattle.xliff.specs.Check.{table_refusal, too_large}
use Rattle.xliff.specs.Focus.{Focus, nowhere, here, focus}
use Rattle.xliff.specs.SetTarget.{state_fits, old_content, is_lost, fixed_differ, new_order, set_unit, set_refusal, set_target}
use Rattle.outcomes.proofs.OutcomeLaws.{on_passed, applied, passed, then_assoc}
use Rattle.result_rules.specs.Broken.{judged}
use Rattle.set_result.specs.SetUnit.{unit_with}
use Rattle.set_result.proofs.PieceLaws.{set_unit_is}
use Rattle.set_target.specs.Ending.{setting_ending}

module _ (t : List ℕ) (n st : ℕ) (s : List ℕ) (room : ℕ) (e : table_refusal t ≡ none) where
  abbrev v : XliffUnit
  v = set_unit (unit t) n st (content s)

  abbrev rest : Option Refusal
  rest = applies 15 (too_large room v) then of_result (fault_6_to_10 v.parts)

  on_focus : (f : Focus) → focus (unit t).parts n ≡ f
      → set_target t n st s room ≡ unless (set_refusal st s f then rest) (encode v)
  unfolding set_target
  on_focus f h =
      on_passed t (set_refusal st s (focus (unit t).parts n) then rest) v e
      ∙ ap (λ (g : Focus). unless (set_refusal st s g then rest) (encode v)) h

  pub no_part : focus (unit t).parts n ≡ nowhere
      → set_target t n st s room ≡ refuse (record { number = 11; place = 0 })
  unfolding set_refusal
  no_part h = on_focus nowhere h ∙ applied 11 true rest (encode v) refl

  module _ (b : List Part) (p : Part) (a : List Part) (h : focus (unit t).parts n ≡ here b p a) where
    abbrev old : Content
    old = old_content p.source p.target

    abbrev lost : Bool
    lost = any (is_lost (content s)) old

    abbrev changed : Bool
    changed = fixed_differ old (content s)

    codes : Option Refusal
    codes = applies 18 lost then (applies 19 changed then rest)

    regroup : (w x y z r : Option Refusal)
        → ((w then (x then (y then z))) then r) ≡ (w then (x then (y then (z then r))))
    regroup w x y z r =
        then_assoc w (x then (y then z)) r
        ∙ ap (λ (o : Option Refusal). w then o)
        (then_assoc x (y then z) r ∙ ap (λ (o : Option Refusal). x then o) (then_assoc y z r))

    chain : set_target t n st s room
        ≡ unless (applies 2 (not (state_fits p.head st)) then (content_fault s then codes)) (encode v)
    unfolding set_refusal codes
    chain =
        on_focus (here b p a) h
        ∙ ap (λ (o : Option Refusal). unless o (encode v))
        (regroup (applies 2 (not (state_fits p.head st))) (content_fault s) (applies 18 lost) (applies 19 changed)
        rest)

    pub refused_2 : state_fits p.head st ≡ false
        → set_target t n st s room ≡ refuse (record { number = 2; place = 0 })
    refused_2 x = chain ∙ applied 2 (not (state_fits p.head st)) _ (encode v) (ap not x)

    module _ (fits : state_fits p.head st ≡ true) where
      after_2 : set_target t n st s room ≡ unless (content_fault s then codes) (encode v)
      after_2 =
          chain
          ∙ ap (λ (o : Option Refusal). unless o (encode v)) (passed 2 (not (state_fits p.head st)) _ (ap not fits))

      pub bad_content : (k at : ℕ) → content_fault s ≡ refusal k at
          → set_target t n st s room ≡ refuse (record { number = k; place = at })
      unfolding ◌then◌ unless
      bad_content k at x = after_2 ∙ ap (λ (o : Option Refusal). unless (o then codes) (encode v)) x

      module _ (good : content_fault s ≡ none) where
        after_content : set_target t n st s room ≡ unless codes (encode v)
        unfolding ◌then◌
        after_content = after_2 ∙ ap (λ (o : Option Refusal). unless (o then codes) (encode v)) good

        pub refused_18 : lost ≡ true → set_target t n st s room ≡ refuse (record { number = 18; place = 0 })
        unfolding codes
        refused_18 x = after_content ∙ applied 18 lost _ (encode v) x

        module _ (kept : lost ≡ false) where
          after_18 : set_target t n st s room ≡ unless (applies 19 changed then rest) (encode v)
          unfolding codes
          after_18 = after_content ∙ ap (λ (o : Option Refusal). unless o (encode v)) (passed 18 lost _ kept)

          pub refused_19 : changed ≡ true → set_target t n st s room ≡ refuse (record { number = 19; place = 0 })
          refused_19 x = after_18 ∙ applied 19 changed _ (encode v) x

          pub ends : changed ≡ false → (q : ℕ) → q ≡ new_order (unit t).parts n p.target
              → set_target t n st s room ≡ setting_ending room (unit_with (unit t) st q (content s) b p a)
          unfolding judged
          ends x q o =
              after_18 ∙ ap (λ (r : Option Refusal). unless r (encode v)) (passed 19 changed rest x)
              ∙ ap (setting_ending room) (set_unit_is (unit t) n st q (content s) b p a h o)
