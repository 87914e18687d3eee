-- One rule after the other.
use Prim.Native.Nat.{ℕ, ◌≤◌}
use mathlib.Core.Path.{◌≡◌, refl, sym, ap, ◌∙◌}
use mathlib.Core.List.{List}
use mathlib.Core.Option.{Option, none, some}
use native.Mathlib.Omega.{arith}
use lib.ListN.{length, get_or}
use lib.Dec.{ltb}
use mir.Syntax.{w8}
use mir.Val.{Fits}
use borrow.Author.Tests.{ltb-false}
use Rattle.xliff.specs.Answer as spec
use Rattle.xliff.specs.Answer.{Refusal, refusal, applies, ◌then◌, unless, answer}
use Rattle.xliff.specs.Parse.{most_bytes, table_fault, unit}
use Rattle.xliff.specs.Rules.{fault_5, fault_6_to_10}
use Rattle.xliff.specs.Check.{table_refusal, check}
use Rattle.xliff.proofs.unit.Result.{then_left, then_right, applies_none}
use Rattle.places.specs.Passes.{Passes}
use Rattle.places.proofs.Places.{passes}
use Rattle.syntax.proofs.StepLaws.{bytes_from}

-- a rule that is broken ends the chain; one that is met leaves it to the rest, and the last to the answer
module _ (t : List ℕ) (n at : ℕ) (f : Option Refusal) (e : refusal n at ≡ f) where
  pub stops : (g : Option Refusal) → spec.refused n at ≡ answer (unless (f then g) t)
  unfolding ◌then◌ unless answer
  stops g = ap (λ (o : Option Refusal). answer (unless (o then g) t)) e

  pub stops_last : spec.refused n at ≡ answer (unless f t)
  unfolding unless answer
  stops_last = ap (λ (o : Option Refusal). answer (unless o t)) e

module _ (t : List ℕ) (f : Option Refusal) (e : none ≡ f) where
  pub goes_on : (g : Option Refusal) (a : spec.Answer) → a ≡ answer (unless g t) → a ≡ answer (unless (f then g) t)
  unfolding ◌then◌
  goes_on g a h = h ∙ ap (λ (o : Option Refusal). answer (unless (o then g) t)) e

  pub all_met : spec.accepted (length t) ≡ answer (unless f t)
  unfolding unless answer
  all_met = ap (λ (o : Option Refusal). answer (unless o t)) e

clash : {A : Type 0} {n m k : ℕ} → spec.accepted n ≡ spec.refused m k → A
clash e = absurd (let z : ◌≡◌ {A = ℕ} 0 1 = cc in omega arith)

accepted_none : (t : List ℕ) (n : ℕ) (f : Option Refusal) → spec.accepted n ≡ answer (unless f t) → f ≡ none
unfolding unless answer
accepted_none t n none e = refl
accepted_none t n (some r) e = clash e

-- 1 to 4 are met: what the rules rely on, and the check is that of the rules
pub rules_left : (t : List ℕ) (n : ℕ) → ((i : ℕ) → Fits w8 (get_or t i 0)) → spec.accepted n ≡ answer (unless (applies 1 (ltb most_bytes (length t)) then table_fault t) t)
    → Passes t × (length t ≤ most_bytes) × (table_refusal t ≡ (fault_5 (unit t).parts then fault_6_to_10 (unit t).parts))
unfolding table_refusal ◌then◌ applies
rules_left t n h e =
    let a = accepted_none t n _ e in
    let l = then_left _ _ a in
    let r = then_right (applies 1 (ltb most_bytes (length t))) _ a in
    let b = applies_none 1 _ l in
    (passes t (bytes_from t (λ i p. omega (arith, h i))) r, omega (arith, ltb-false most_bytes (length t) b), rw (b, r) refl)

pub rules_answer : (t : List ℕ) (a : spec.Answer) → table_refusal t ≡ (fault_5 (unit t).parts then fault_6_to_10 (unit t).parts)
    → a ≡ answer (unless (fault_5 (unit t).parts then fault_6_to_10 (unit t).parts) t) → a ≡ check t
unfolding check
rules_answer t a e h = h ∙ ap (λ (o : Option Refusal). answer (unless o t)) (sym e)

-- one of 1 to 4 is the check's answer
pub refused_early : (t : List ℕ) (n at : ℕ) (a b c : Option Refusal) → spec.refused n at ≡ answer (unless (a then b) t) → spec.refused n at ≡ answer (unless (a then (b then c)) t)
unfolding unless answer ◌then◌
refused_early t n at none none c e = clash (sym e)
refused_early t n at none (some r) c e = e
refused_early t n at (some r) b c e = e

pub refused_check : (t : List ℕ) (n at : ℕ) → spec.refused n at ≡ answer (unless (applies 1 (ltb most_bytes (length t)) then table_fault t) t) → spec.refused n at ≡ check t
unfolding check table_refusal
refused_check t n at e = refused_early t n at (applies 1 (ltb most_bytes (length t))) (table_fault t) (fault_5 (unit t).parts then fault_6_to_10 (unit t).parts) e
