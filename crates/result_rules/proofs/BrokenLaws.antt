-- The first of some rules that is broken.
use Prim.Native.Nat.{ℕ}
use mathlib.Core.Path.{◌≡◌, refl, sym, ap, ◌∙◌}
use mathlib.Core.Bool.{Bool, true, false, true≢false}
use mathlib.Core.List.{List}
use mathlib.Core.Option.{Option, none, some}
use native.Mathlib.Omega.{arith}
use Rattle.xliff.specs.Answer as spec
use Rattle.xliff.specs.Answer.{Refusal, refusal, ◌then◌, is_fault, of_result, unless, answer}
use Rattle.answers.specs.Answers.{refusal_at}
use Rattle.std.specs.Prelude.{Option as RustOption, None, Some}
use Rattle.std.specs.Option.{is_some}
use Rattle.result_rules.specs.Broken.{broken}

module _ (n : ℕ) (p : RustOption ℕ) (f : Option Refusal) (e : refusal_at n p ≡ f) where
  -- a rule that is broken is the first, one that is met leaves it to the rest
  pub first_is : (g : Option Refusal) → is_some p ≡ true → broken (Some n) ≡ of_result (f then g)
  unfolding ◌then◌ of_result
  first_is g h = by p e h
    where
      by : (o : RustOption ℕ) → refusal_at n o ≡ f → is_some o ≡ true → refusal n 0 ≡ of_result (f then g)
      by None d k = absurd (true≢false (sym k))
      by (Some at) d k = ap (λ (o : Option Refusal). of_result (o then g)) d

  pub met_is : is_some p ≡ false → none ≡ f
  met_is h = by p e h
    where
      by : (o : RustOption ℕ) → refusal_at n o ≡ f → is_some o ≡ false → none ≡ f
      by None d k = d
      by (Some at) d k = absurd (true≢false k)

  -- whether it is broken
  pub fault_is : is_some p ≡ is_fault f
  unfolding is_fault
  fault_is = by p e
    where
      by : (o : RustOption ℕ) → refusal_at n o ≡ f → is_some o ≡ is_fault f
      by None d = ap is_fault d
      by (Some at) d = ap is_fault d

pub next_is : (f g o : Option Refusal) → none ≡ f → o ≡ of_result g → o ≡ of_result (f then g)
unfolding ◌then◌
next_is f g o e h = h ∙ ap (λ (o : Option Refusal). of_result (o then g)) e

pub last_is : (n : ℕ) (p : RustOption ℕ) (g : Option Refusal) → refusal_at n p ≡ g → is_some p ≡ true → broken (Some n) ≡ of_result g
unfolding of_result
last_is n None g e h = absurd (true≢false (sym h))
last_is n (Some at) g e h = ap of_result e

-- the number of an answer
clash : {A : Type 0} {n m k : ℕ} → spec.accepted n ≡ spec.refused m k → A
clash e = absurd (let z : ◌≡◌ {A = ℕ} 0 1 = cc in omega arith)

module _ (t : List ℕ) where
  pub accepted_is : (n : ℕ) (f : Option Refusal) → spec.accepted n ≡ answer (unless f t) → broken None ≡ of_result f
  unfolding of_result unless answer
  accepted_is n none e = refl
  accepted_is n (some r) e = clash e

  pub refused_is : (n at : ℕ) (f : Option Refusal) → spec.refused n at ≡ answer (unless f t) → broken (Some n) ≡ of_result f
  unfolding of_result unless answer
  refused_is n at none e = clash (sym e)
  refused_is n at (some r) e = let z : n ≡ r.number = cc in ap (λ (m : ℕ). refusal m 0) z
