-- Sums over the two sequences are sums over the parts: each source content stands once in the source sequence, each
-- target once at most in the target sequence, and once where rule 5 is met.
use Prim.Native.Nat.{ℕ, zero, suc, ◌+◌, ◌≤◌, ◌<◌}
use native.Mathlib.Omega.{arith}
use mathlib.Core.Path.{◌≡◌, refl, sym, ap₂, ◌∙◌}
use mathlib.Core.Bool.{Bool, true, false, not, ◌||◌, cond}
use mathlib.Core.List.{List, [], ◌∷◌, ◌++◌}
use mathlib.Core.Option.{none}
use lib.Dec.{eqb, ltb}
use lib.ListN.{length}
use borrow.Author.Tests.{eqb-true, eqb-false, ne_eqb, ltb-false, not-true}
use Rattle.xliff.specs.Bytes.{among, gather}
use Rattle.xliff.specs.Item.{Item, Content}
use Rattle.xliff.specs.Unit.{Target, no_target, target, Part, target_items, source_sequence, of_order, target_of_order, targets, target_sequence, order_list, orders}
use Rattle.xliff.specs.Rules.{bad_order, fault_5}
use Rattle.xliff.proofs.lists.Sum.{sum, sum_append, sum_cong, sum_gather, sum_add, sum_le}
use Rattle.xliff.proofs.lists.Tests.{and_left, and_right, or_left, or_right}
use Rattle.xliff.proofs.rules.Orders.{orders_fit}
use Rattle.xliff.proofs.operations.SplitTarget.{fault_5_fits}

module _ (f : Item → ℕ) where
  pub total_source : (ps : List Part) → sum f (source_sequence ps) ≡ sum (λ p. sum f p.source) ps
  unfolding source_sequence
  total_source ps = sum_gather f (λ (p : Part). p.source) ps

  -- what a target gives to the orders after q, n of them
  abbrev slots : Target → ℕ → ℕ → Content
  slots g q zero = []
  slots g q (suc n) = of_order (suc q) g ++ slots g (suc q) n

  slots_past : (r : ℕ) (xs : Content) (q n : ℕ) → r ≤ q → sum f (slots (target r xs) q n) ≡ 0
  unfolding of_order
  slots_past r xs q zero l = refl
  slots_past r xs q (suc n) l = rw (ne_eqb (suc q) r (λ z. omega arith)) (slots_past r xs (suc q) n (omega arith))

  slots_once : (g : Target) (q n : ℕ) → sum f (slots g q n) ≤ sum f (target_items g)
  unfolding of_order target_items
  slots_once no_target q zero = omega arith
  slots_once no_target q (suc n) = slots_once no_target (suc q) n
  slots_once (target r xs) q zero = omega arith
  slots_once (target r xs) q (suc n) = by (eqb (suc q) r) refl (slots_once (target r xs) (suc q) n)
    where
      by : (b : Bool) → eqb (suc q) r ≡ b → sum f (slots (target r xs) (suc q) n) ≤ sum f xs → sum f (cond b xs [] ++ slots (target r xs) (suc q) n) ≤ sum f xs
      by true e h =
          let a = sum_append f xs (slots (target r xs) (suc q) n) in
          let b = slots_past r xs (suc q) n (let z = eqb-true (suc q) r e in omega arith) in
          omega arith
      by false e h = h

  slots_full : (r : ℕ) (xs : Content) (q n : ℕ) → q < r → r ≤ q + n → sum f (slots (target r xs) q n) ≡ sum f xs
  unfolding of_order
  slots_full r xs q zero l h = absurd (let z : ⊥ = omega arith in z)
  slots_full r xs q (suc n) l h = by (eqb (suc q) r) refl (slots_full r xs (suc q) n)
    where
      by : (b : Bool) → eqb (suc q) r ≡ b → (suc q < r → r ≤ suc q + n → sum f (slots (target r xs) (suc q) n) ≡ sum f xs)
          → sum f (cond b xs [] ++ slots (target r xs) (suc q) n) ≡ sum f xs
      by true e ih =
          let a = sum_append f xs (slots (target r xs) (suc q) n) in
          let b = slots_past r xs (suc q) n (let z = eqb-true (suc q) r e in omega arith) in
          omega arith
      by false e ih = ih (let z = eqb-false (suc q) r e in omega arith) (omega arith)

  slots_sum : (q n : ℕ) (ps : List Part) → sum f (targets ps q n) ≡ sum (λ p. sum f (slots p.target q n)) ps
  unfolding targets target_of_order
  slots_sum q zero ps = nil ps
    where
      nil : (l : List Part) → 0 ≡ sum (λ p. sum f (slots p.target q zero)) l
      nil [] = refl
      nil (p ∷ l) = let h = nil l in omega arith
  slots_sum q (suc n) ps =
      sum_append f (gather (λ p. of_order (suc q) p.target) ps) (targets ps (suc q) n)
      ∙ ap₂ ◌+◌ (sum_gather f (λ p. of_order (suc q) p.target) ps) (slots_sum (suc q) n ps)
      ∙ sum_add (λ (p : Part). sum f (of_order (suc q) p.target)) (λ p. sum f (slots p.target (suc q) n)) ps
      ∙ sum_cong (λ (p : Part). sum f (of_order (suc q) p.target) + sum f (slots p.target (suc q) n)) (λ p. sum f (slots p.target q (suc n)))
      (λ p. sym (sum_append f (of_order (suc q) p.target) (slots p.target (suc q) n))) ps

  pub total_target_most : (ps : List Part) → sum f (target_sequence ps) ≤ sum (λ p. sum f (target_items p.target)) ps
  unfolding target_sequence
  total_target_most ps =
      let a = slots_sum 0 (length ps) ps in
      let b = sum_le (λ (p : Part). sum f (slots p.target 0 (length ps))) (λ p. sum f (target_items p.target)) (λ p. slots_once p.target 0 (length ps)) ps in
      omega arith

  -- with orders that fit

  slots_none : (q n : ℕ) → sum f (slots no_target q n) ≡ 0
  unfolding of_order
  slots_none q zero = refl
  slots_none q (suc n) = slots_none (suc q) n

  fit_sum : (n : ℕ) (used : List ℕ) (ps : List Part) → orders_fit n used (orders ps) ≡ true → sum (λ p. sum f (slots p.target 0 n)) ps ≡ sum (λ p. sum f (target_items p.target)) ps
  unfolding orders gather order_list orders_fit bad_order target_items
  fit_sum n used [] e = refl
  fit_sum n used (p ∷ ps) e = by p.target e (λ u k. fit_sum n u ps k)
    where
      by : (g : Target) → orders_fit n used (order_list g ++ orders ps) ≡ true
          → ((u : List ℕ) → orders_fit n u (orders ps) ≡ true → sum (λ p. sum f (slots p.target 0 n)) ps ≡ sum (λ p. sum f (target_items p.target)) ps)
          → sum f (slots g 0 n) + sum (λ p. sum f (slots p.target 0 n)) ps ≡ sum f (target_items g) + sum (λ p. sum f (target_items p.target)) ps
      by no_target k ih = ap₂ ◌+◌ (slots_none 0 n) (ih used k)
      by (target q xs) k ih =
          let g : bad_order n used q ≡ false = not-true _ (and_left _ _ k) in
          let r : ltb n q || among q used ≡ false = or_right (eqb q 0) _ g in
          ap₂ ◌+◌ (slots_full q xs 0 n (let z = eqb-false q 0 (or_left (eqb q 0) (ltb n q || among q used) g) in omega arith) (let z = ltb-false n q (or_left _ _ r) in omega arith))
          (ih (q ∷ used) (and_right (not (bad_order n used q)) _ k))

  pub total_target : (ps : List Part) → fault_5 ps ≡ none → sum f (target_sequence ps) ≡ sum (λ p. sum f (target_items p.target)) ps
  unfolding target_sequence
  total_target ps e = slots_sum 0 (length ps) ps ∙ fit_sum (length ps) [] ps (fault_5_fits ps e)
