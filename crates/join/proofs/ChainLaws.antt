-- The refusals of join, one after the other.
use Prim.Native.Nat.{ℕ}
use mathlib.Core.Path.{◌≡◌, refl, ap, ap₂, ◌∙◌}
use mathlib.Core.Bool.{Bool, true, false, ◌||◌}
use mathlib.Core.List.{List, [], ◌∷◌}
use mathlib.Core.Option.{Option, none}
use Rattle.xliff.specs.Answer.{Refusal, applies, ◌then◌, is_fault, result, refuse, unless}
use Rattle.xliff.specs.Unit.{Part, XliffUnit, is_closed}
use Rattle.xliff.specs.Encode.{encode}
use Rattle.xliff.specs.Parse.{unit}
use Rattle.xliff.specs.Rules.{fault_7}
use Rattle.xliff.specs.Check.{table_refusal, too_large}
use Rattle.xliff.specs.Focus.{Focus, nowhere, here, focus}
use Rattle.xliff.specs.Join.{join, join_unit, join_refusal, bad_orders}
use Rattle.outcomes.proofs.OutcomeLaws.{on_passed, applied, passed, then_assoc}
use Rattle.join_result.specs.Result.{joined_unit}
use Rattle.join_result.proofs.ResultLaws.{join_unit_is}
use Rattle.join.specs.Pair.{join_ending}

-- the result is judged last
module _ (room : ℕ) (v : XliffUnit) where
  pub refused_17 : is_fault (fault_7 v.parts) ≡ true → join_ending room v ≡ refuse (record { number = 17; place = 0 })
  unfolding join_ending
  refused_17 x = applied 17 (is_fault (fault_7 v.parts)) _ (encode v) x

  after_17 : is_fault (fault_7 v.parts) ≡ false → join_ending room v ≡ unless (applies 15 (too_large room v)) (encode v)
  unfolding join_ending
  after_17 x = ap (λ (o : Option Refusal). unless o (encode v)) (passed 17 (is_fault (fault_7 v.parts)) _ x)

  pub refused_15 : is_fault (fault_7 v.parts) ≡ false → too_large room v ≡ true → join_ending room v ≡ refuse (record { number = 15; place = 0 })
  unfolding applies unless
  refused_15 x y = after_17 x ∙ ap (λ (c : Bool). unless (applies 15 c) (encode v)) y

  pub done : is_fault (fault_7 v.parts) ≡ false → too_large room v ≡ false → join_ending room v ≡ result (encode v)
  unfolding applies unless
  done x y = after_17 x ∙ ap (λ (c : Bool). unless (applies 15 c) (encode v)) y

module _ (t : List ℕ) (n room : ℕ) (e : table_refusal t ≡ none) where
  abbrev v : XliffUnit
  v = join_unit (unit t) n

  on_focus : (f : Focus) → focus (unit t).parts n ≡ f → join t n room ≡ unless (join_refusal (unit t) n f then applies 15 (too_large room v)) (encode v)
  unfolding join
  on_focus f h =
      on_passed t (join_refusal (unit t) n (focus (unit t).parts n) then applies 15 (too_large room v)) v e
      ∙ ap (λ (g : Focus). unless (join_refusal (unit t) n g then applies 15 (too_large room v)) (encode v)) h

  pub no_part : focus (unit t).parts n ≡ nowhere → join t n room ≡ refuse (record { number = 11; place = 0 })
  unfolding join_refusal
  no_part h = on_focus nowhere h ∙ applied 11 true (applies 15 (too_large room v)) (encode v) refl

  pub no_next : (b : List Part) (p : Part) → focus (unit t).parts n ≡ here b p [] → join t n room ≡ refuse (record { number = 11; place = 0 })
  unfolding join_refusal
  no_next b p h = on_focus (here b p []) h ∙ applied 11 true (applies 15 (too_large room v)) (encode v) refl

  module _ (b : List Part) (p q : Part) (a : List Part) (h : focus (unit t).parts n ≡ here b p (q ∷ a)) where
    closed : Bool
    closed = is_closed (unit t).opening.can_resegment p || is_closed (unit t).opening.can_resegment q

    seven : Option Refusal
    seven = applies 17 (is_fault (fault_7 v.parts))

    large : Option Refusal
    large = applies 15 (too_large room v)

    chain : join t n room ≡ unless (applies 12 closed then (applies 16 (bad_orders p.target q.target) then (seven then large))) (encode v)
    unfolding join_refusal closed seven large
    chain =
        on_focus (here b p (q ∷ a)) h
        ∙ ap (λ (o : Option Refusal). unless o (encode v))
        (then_assoc (applies 12 closed) (applies 16 (bad_orders p.target q.target) then seven) large
        ∙ ap (λ (o : Option Refusal). applies 12 closed then o) (then_assoc (applies 16 (bad_orders p.target q.target)) seven large))

    closed_12 : closed ≡ true → join t n room ≡ refuse (record { number = 12; place = 0 })
    closed_12 x = chain ∙ applied 12 closed _ (encode v) x

    pub first_closed : is_closed (unit t).opening.can_resegment p ≡ true → join t n room ≡ refuse (record { number = 12; place = 0 })
    unfolding closed
    first_closed x = closed_12 (ap (λ (c : Bool). c || is_closed (unit t).opening.can_resegment q) x)

    pub second_closed : is_closed (unit t).opening.can_resegment p ≡ false → is_closed (unit t).opening.can_resegment q ≡ true → join t n room ≡ refuse (record { number = 12; place = 0 })
    unfolding closed
    second_closed x y = closed_12 (ap₂ ◌||◌ x y)

    after_12 : is_closed (unit t).opening.can_resegment p ≡ false → is_closed (unit t).opening.can_resegment q ≡ false
        → join t n room ≡ unless (applies 16 (bad_orders p.target q.target) then (seven then large)) (encode v)
    unfolding closed
    after_12 x y = chain ∙ ap (λ (o : Option Refusal). unless o (encode v)) (passed 12 closed _ (ap₂ ◌||◌ x y))

    pub refused_16 : is_closed (unit t).opening.can_resegment p ≡ false → is_closed (unit t).opening.can_resegment q ≡ false → bad_orders p.target q.target ≡ true
        → join t n room ≡ refuse (record { number = 16; place = 0 })
    refused_16 x y z = after_12 x y ∙ applied 16 (bad_orders p.target q.target) _ (encode v) z

    pub ends : is_closed (unit t).opening.can_resegment p ≡ false → is_closed (unit t).opening.can_resegment q ≡ false → bad_orders p.target q.target ≡ false
        → join t n room ≡ join_ending room (joined_unit (unit t) b p q a)
    unfolding join_ending seven large
    ends x y z =
        after_12 x y ∙ ap (λ (o : Option Refusal). unless o (encode v)) (passed 16 (bad_orders p.target q.target) _ z)
        ∙ ap (join_ending room) (join_unit_is (unit t) n b p q a h)
