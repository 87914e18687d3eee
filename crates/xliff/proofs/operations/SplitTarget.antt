-- Laws of split: with 5 met, the flattened target sequence stays.
use Prim.Native.Nat.{ℕ, suc, ◌+◌, ◌<◌, ◌≤◌}
use mathlib.Core.Path.{◌≡◌, refl, sym, ap, ap₂, ◌∙◌, subst}
use mathlib.Core.Bool.{true, false, not}
use mathlib.Core.List.{List, [], ◌∷◌, ◌++◌, append-nil}
use mathlib.Core.Option.{none}
use native.Mathlib.Omega.{arith}
use lib.ListN.{length, length-append, length-map}
use lib.Dec.{eqb}
use borrow.Author.Tests.{ne_eqb, ltb-false, not-true}
use Rattle.xliff.specs.Bytes.{gather, among}
use Rattle.xliff.specs.Item.{Content, flattened}
use Rattle.xliff.specs.Unit.{Target, no_target, target, Part, of_order, target_of_order, targets, target_sequence, order_list, orders}
use Rattle.xliff.specs.Sequences.{located}
use Rattle.xliff.specs.Rules.{bad_order, fault_5}
use Rattle.xliff.specs.Focus.{Focus, nowhere, here, focus, order_parts}
use Rattle.xliff.specs.Split.{raise_above, first_items, second_items, first_target, second_target, first_half, second_half, split_order, split_focus}
use Rattle.xliff.proofs.lists.Tests.{gather_append, or_left, or_right, and_left, and_right}
use Rattle.xliff.proofs.operations.Sources.{focus_here, flattened_append, flattened_halves}
use Rattle.xliff.proofs.rules.Orders.{orders_fit, rule_5, order_fits, unused_order, moved, targets_add, targets_same, target_append, split_targets}

pub orders_append : (ps qs : List Part) → orders (ps ++ qs) ≡ orders ps ++ orders qs
unfolding orders
orders_append ps qs = gather_append (λ p. order_list p.target) ps qs

-- an order above all that fit is not used
pub too_high : (n k : ℕ) (used qs : List ℕ) → n < k → orders_fit n used qs ≡ true → among k qs ≡ false
unfolding orders_fit bad_order among
too_high n k used [] l e = refl
too_high n k used (q ∷ qs) l e = rw (ne_eqb k q (λ z. differ z)) (too_high n k (q ∷ used) qs l (and_right (not (bad_order n used q)) _ e))
  where
    differ : k ≡ q → ⊥
    differ z =
        let h : q ≤ n = ltb-false n q (or_left _ (among q used) (or_right (eqb q 0) _ (not-true (bad_order n used q) (and_left _ _ e)))) in
        omega arith

pub fault_5_fits : (ps : List Part) → fault_5 ps ≡ none → orders_fit (length ps) [] (orders ps) ≡ true
unfolding fault_5 located
fault_5_fits ps e = rule_5 (length ps) 3 [] ps e

-- two halves in the place of one content
glue : (u v xs ys zs old new : Content) → old ≡ u ++ (xs ++ v) → new ≡ u ++ ((ys ++ zs) ++ v) → flattened ys ++ flattened zs ≡ flattened xs
    → flattened new ≡ flattened old
glue u v xs ys zs old new x y h =
    rw (x, y)
    (flattened_append u ((ys ++ zs) ++ v) ∙ ap (λ (l : Content). flattened u ++ l) (flattened_append (ys ++ zs) v
    ∙ ap (λ (l : Content). l ++ flattened v) (flattened_append ys zs ∙ h) ∙ sym (flattened_append xs v))
    ∙ sym (flattened_append u (xs ++ v)))

-- with a target
with_target : (source_cut target_cut new : ℕ) (b : List Part) (p : Part) (a : List Part) (q : ℕ) (xs : Content) → p.target ≡ target q xs
    → orders_fit (length (b ++ (p ∷ a))) [] (orders (b ++ (p ∷ a))) ≡ true
    → flattened (target_sequence
    (order_parts (raise_above q) b ++ (first_half source_cut target_cut p ∷ second_half source_cut target_cut new p ∷ order_parts (raise_above q) a)))
    ≡ flattened (target_sequence (b ++ (p ∷ a)))
unfolding first_half second_half first_target second_target orders order_list gather
with_target source_cut target_cut new b p a q xs g e =
    let shown : orders (b ++ (p ∷ a)) ≡ orders b ++ (q ∷ orders a) = orders_append b (p ∷ a)
    ∙ ap (λ (t : Target). orders b ++ (order_list t ++ orders a)) g in
    let o = order_fits (length (b ++ (p ∷ a))) [] (orders b) q (orders a) (ap (orders_fit (length (b ++ (p ∷ a))) []) (sym shown) ∙ e) in
    let (u, v, x, y) =
    split_targets b a p (first_half source_cut target_cut p) (second_half source_cut target_cut new p) q xs (first_items target_cut xs)
    (second_items target_cut xs) g
    (ap (first_target target_cut) g) (ap (second_target target_cut) g) o.low o.high (unused_order q b o.not_before)
    (unused_order q a o.not_after) in
    glue u v xs (first_items target_cut xs) (second_items target_cut xs) _ _ x y (flattened_halves target_cut xs)

-- without: the orders stay, and the one more is not used
pub without_target : (b : List Part) (p f s : Part) (a : List Part) → p.target ≡ no_target → f.target ≡ no_target → s.target ≡ no_target
    → orders_fit (length (b ++ (p ∷ a))) [] (orders (b ++ (p ∷ a))) ≡ true
    → target_sequence (order_parts (split_order no_target) b ++ (f ∷ s ∷ order_parts (split_order no_target) a)) ≡ target_sequence (b ++ (p ∷ a))
unfolding target_sequence targets split_order order_parts target_of_order gather of_order
without_target b p f s a pt ft st e =
    let old : List Part = b ++ (p ∷ a) in
    let new : List Part = order_parts (split_order no_target) b ++ (f ∷ s ∷ order_parts (split_order no_target) a) in
    let n : ℕ = length (b ++ (p ∷ a)) in
    let len : length new ≡ n + 1 = simp (length-append, length-map) (omega arith) in
    ap (targets new 0) len ∙ targets_add new 0 n 1
    ∙ ap₂ ◌++◌ (targets_same new old 0 0 n (λ k l. at (suc (0 + k))))
    (ap (λ (l : Content). l ++ []) (at (suc (0 + n)) ∙ unused_order (suc (0 + n)) old (too_high n (suc (0 + n)) [] (orders old) (omega arith) e)))
    ∙ append-nil (targets old 0 n)
  where
    at : (k : ℕ) → target_of_order (order_parts (split_order no_target) b ++ (f ∷ s ∷ order_parts (split_order no_target) a)) k
        ≡ target_of_order (b ++ (p ∷ a)) k
    at k =
        target_append (order_parts (split_order no_target) b) (f ∷ s ∷ order_parts (split_order no_target) a) k
        ∙ ap₂ (λ (l m : Content). l ++ m) (moved (split_order no_target) k k b (λ o. (λ z. z, λ z. z))) (inner k)
        ∙ sym (target_append b (p ∷ a) k)
      where
        inner : (k : ℕ) → target_of_order (f ∷ s ∷ order_parts (split_order no_target) a) k ≡ target_of_order (p ∷ a) k
        inner k = rw (ft, st, pt) (moved (split_order no_target) k k a (λ o. (λ z. z, λ z. z)))

-- Split keeps the flattened target
pub split_target : (source_cut target_cut new : ℕ) (ps : List Part) (n : ℕ) → fault_5 ps ≡ none
    → flattened (target_sequence (split_focus source_cut target_cut new ps (focus ps n))) ≡ flattened (target_sequence ps)
unfolding split_focus first_half second_half first_target second_target split_order
split_target source_cut target_cut new ps n e = by (focus ps n) refl
  where
    go : (b : List Part) (p : Part) (a : List Part) (g : Target) → p.target ≡ g → ps ≡ b ++ (p ∷ a)
        → flattened (target_sequence
        (order_parts (split_order g) b ++
        (first_half source_cut target_cut p ∷ second_half source_cut target_cut new p ∷ order_parts (split_order g) a)))
        ≡ flattened (target_sequence ps)
    go b p a no_target h k =
        ap flattened
        (without_target b p (first_half source_cut target_cut p) (second_half source_cut target_cut new p) a h
        (ap (first_target target_cut) h) (ap (second_target target_cut) h)
        (subst (λ (l : List Part). orders_fit (length l) [] (orders l) ≡ true) k (fault_5_fits ps e))
        ∙ ap target_sequence (sym k))
    go b p a (target q xs) h k =
        with_target source_cut target_cut new b p a q xs h
        (subst (λ (l : List Part). orders_fit (length l) [] (orders l) ≡ true) k (fault_5_fits ps e))
        ∙ ap (λ (l : List Part). flattened (target_sequence l)) (sym k)

    by : (f : Focus) → focus ps n ≡ f → flattened (target_sequence (split_focus source_cut target_cut new ps f)) ≡ flattened (target_sequence ps)
    by nowhere h = refl
    by (here b p a) h = go b p a p.target refl (focus_here ps n b p a h)
