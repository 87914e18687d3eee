-- One target in its place: the target sequence is what is before its order, its content, and what is behind its order.
-- So when it is taken out or put in.
use Prim.Native.Nat.{ℕ, suc, ◌+◌, ◌-◌, ◌≤◌}
use native.Mathlib.Omega.{arith}
use mathlib.Core.Path.{◌≡◌, refl, sym, ap, ap₂, ◌∙◌}
use mathlib.Core.Bool.{Bool, false, cond}
use mathlib.Core.List.{List, [], ◌∷◌, ◌++◌, append-nil}
use mathlib.Core.Option.{none}
use lib.ListN.{length, length-append}
use borrow.Author.Tests.{eq-eqb, ne_eqb}
use Rattle.xliff.specs.Bytes.{among, gather}
use Rattle.xliff.specs.Item.{Content}
use Rattle.xliff.specs.Unit.{Target, no_target, target, Part, of_order, target_of_order, targets, target_sequence, order_list, orders}
use Rattle.xliff.specs.Rules.{fault_5}
use Rattle.xliff.proofs.rules.Orders.{orders_fit, order_fits, unused_order, targets_add, targets_same, target_append}
use Rattle.xliff.proofs.operations.SplitTarget.{orders_append, fault_5_fits}

module _ (b : List Part) (p : Part) (a : List Part) where
  at_order : (k : ℕ) → target_of_order (b ++ (p ∷ a)) k ≡ target_of_order b k ++ (of_order k p.target ++ target_of_order a k)
  unfolding target_of_order gather
  at_order k = target_append b (p ∷ a) k

  -- where the part has nothing of an order
  at_rest : (k : ℕ) → of_order k p.target ≡ [] → target_of_order (b ++ (p ∷ a)) k ≡ target_of_order (b ++ a) k
  at_rest k e = at_order k ∙ ap (λ (l : Content). target_of_order b k ++ (l ++ target_of_order a k)) e ∙ sym (target_append b a k)

  other_order : (q : ℕ) (c : Content) → p.target ≡ target q c → (k : ℕ) → (k ≡ q → ⊥) → of_order k p.target ≡ []
  unfolding of_order
  other_order q c e k n = ap (of_order k) e ∙ ap (λ (z : Bool). cond z c []) (ne_eqb k q n)

  no_order : p.target ≡ no_target → (k : ℕ) → of_order k p.target ≡ []
  unfolding of_order
  no_order e k = ap (of_order k) e

  -- the sequence taken apart at the order q
  slot : (q n : ℕ) → 1 ≤ q → q ≤ n → ((k : ℕ) → (k ≡ q → ⊥) → of_order k p.target ≡ [])
      → targets (b ++ (p ∷ a)) 0 n ≡ targets (b ++ a) 0 (q - 1) ++ (target_of_order (b ++ (p ∷ a)) q ++ targets (b ++ a) q (n - q))
  unfolding targets
  slot q n l h f =
      ap (targets (b ++ (p ∷ a)) 0) (let e : n ≡ (q - 1) + suc (n - q) = omega arith in e)
      ∙ targets_add (b ++ (p ∷ a)) 0 (q - 1) (suc (n - q))
      ∙ ap₂ (λ (x : Content) (z : ℕ). x ++ targets (b ++ (p ∷ a)) z (suc (n - q)))
      (targets_same (b ++ (p ∷ a)) (b ++ a) 0 0 (q - 1) (λ k m. at_rest (suc (0 + k)) (f (suc (0 + k)) (λ z. omega arith))))
      (let e : 0 + (q - 1) ≡ q - 1 = omega arith in e)
      ∙ ap (λ (z : ℕ). targets (b ++ a) 0 (q - 1) ++ (target_of_order (b ++ (p ∷ a)) z ++ targets (b ++ (p ∷ a)) z (n - q))) (let e : suc (q - 1) ≡ q = omega arith in e)
      ∙ ap (λ (x : Content). targets (b ++ a) 0 (q - 1) ++ (target_of_order (b ++ (p ∷ a)) q ++ x))
      (targets_same (b ++ (p ∷ a)) (b ++ a) q q (n - q) (λ k m. at_rest (suc (q + k)) (f (suc (q + k)) (λ z. omega arith))))

  pub with_place : (q : ℕ) (c : Content) (n : ℕ) → p.target ≡ target q c → 1 ≤ q → q ≤ n → among q (orders b) ≡ false → among q (orders a) ≡ false
      → targets (b ++ (p ∷ a)) 0 n ≡ targets (b ++ a) 0 (q - 1) ++ (c ++ targets (b ++ a) q (n - q))
  unfolding of_order
  with_place q c n e l h nb na =
      slot q n l h (other_order q c e)
      ∙ ap (λ (x : Content). targets (b ++ a) 0 (q - 1) ++ (x ++ targets (b ++ a) q (n - q)))
      (at_order q
      ∙ ap₂ (λ (x y : Content). x ++ (of_order q p.target ++ y)) (unused_order q b nb) (unused_order q a na)
      ∙ append-nil (of_order q p.target) ∙ ap (of_order q) e ∙ ap (λ (z : Bool). cond z c []) (eq-eqb q q refl))

  pub without_place : (q n : ℕ) → p.target ≡ no_target → 1 ≤ q → q ≤ n → among q (orders b) ≡ false → among q (orders a) ≡ false
      → targets (b ++ (p ∷ a)) 0 n ≡ targets (b ++ a) 0 (q - 1) ++ targets (b ++ a) q (n - q)
  without_place q n e l h nb na =
      slot q n l h (λ k d. no_order e k)
      ∙ ap (λ (x : Content). targets (b ++ a) 0 (q - 1) ++ (x ++ targets (b ++ a) q (n - q)))
      (at_order q ∙ ap₂ (λ (x y : Content). x ++ (of_order q p.target ++ y)) (unused_order q b nb) (unused_order q a na)
      ∙ append-nil (of_order q p.target) ∙ no_order e q)

-- with 5 met a target has its place
pub place : (b : List Part) (p : Part) (a : List Part) (q : ℕ) (c : Content) → p.target ≡ target q c → fault_5 (b ++ (p ∷ a)) ≡ none
    → (1 ≤ q) × (q ≤ length (b ++ (p ∷ a))) × (among q (orders b) ≡ false) × (among q (orders a) ≡ false)
unfolding orders order_list gather
place b p a q c e five =
    let shown : orders (b ++ (p ∷ a)) ≡ orders b ++ (q ∷ orders a) = orders_append b (p ∷ a) ∙ ap (λ (t : Target). orders b ++ (order_list t ++ orders a)) e in
    let o = order_fits (length (b ++ (p ∷ a))) [] (orders b) q (orders a) (ap (orders_fit (length (b ++ (p ∷ a))) []) (sym shown) ∙ fault_5_fits (b ++ (p ∷ a)) five) in
    (o.low, o.high, o.not_before, o.not_after)

-- a part in the place of another: the sequences around their target
same_length : (b : List Part) (p q : Part) (a : List Part) → length (b ++ (q ∷ a)) ≡ length (b ++ (p ∷ a))
same_length b p q a = length-append b (q ∷ a) ∙ sym (length-append b (p ∷ a))

pub taken_out : (b : List Part) (p p' : Part) (a : List Part) (q : ℕ) (c : Content) → p.target ≡ target q c → p'.target ≡ no_target → fault_5 (b ++ (p ∷ a)) ≡ none
    → (u v : Content) × (target_sequence (b ++ (p ∷ a)) ≡ u ++ (c ++ v)) × (target_sequence (b ++ (p' ∷ a)) ≡ u ++ v)
unfolding target_sequence
taken_out b p p' a q c e e' five =
    let (l, h, nb, na) = place b p a q c e five in
    let n : ℕ = length (b ++ (p ∷ a)) in (
      targets (b ++ a) 0 (q - 1),
      targets (b ++ a) q (n - q),
      with_place b p a q c n e l h nb na,
      ap (targets (b ++ (p' ∷ a)) 0) (same_length b p p' a) ∙ without_place b p' a q n e' l h nb na,
    )

pub put_in_place : (b : List Part) (p p' : Part) (a : List Part) (q : ℕ) (c c' : Content) → p.target ≡ target q c → p'.target ≡ target q c' → fault_5 (b ++ (p ∷ a)) ≡ none
    → (u v : Content) × (target_sequence (b ++ (p ∷ a)) ≡ u ++ (c ++ v)) × (target_sequence (b ++ (p' ∷ a)) ≡ u ++ (c' ++ v))
unfolding target_sequence
put_in_place b p p' a q c c' e e' five =
    let (l, h, nb, na) = place b p a q c e five in
    let n : ℕ = length (b ++ (p ∷ a)) in (
      targets (b ++ a) 0 (q - 1),
      targets (b ++ a) q (n - q),
      with_place b p a q c n e l h nb na,
      ap (targets (b ++ (p' ∷ a)) 0) (same_length b p p' a) ∙ with_place b p' a q c' n e' l h nb na,
    )
