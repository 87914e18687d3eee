-- Laws of join: the orders of the result meet 5.
use Prim.Native.Nat.{ℕ, suc, ◌-◌, ◌<◌, ◌≤◌}
use mathlib.Core.Path.{◌≡◌, refl, sym, ap, ap₂, ◌∙◌}
use mathlib.Core.Bool.{Bool, true, false, not, ◌&&◌, ◌||◌, cond, true≢false}
use mathlib.Core.Logic.{◌⊎◌, inl, inr}
use mathlib.Core.List.{List, [], ◌∷◌, ◌++◌, map, append_assoc}
use mathlib.Core.Option.{none}
use native.Mathlib.Omega.{arith}
use lib.ListN.{length, length-append, length-map}
use lib.Dec.{eqb, ltb}
use borrow.Author.Tests.{eqb-true, eqb-false, ne_eqb, ltb-true, ltb-false, le-ltb, not-false, not-true}
use Rattle.xliff.specs.Bytes.{among, gather}
use Rattle.xliff.specs.Unit.{Target, no_target, target, Part, order_list, orders}
use Rattle.xliff.specs.Item.{Content}
use Rattle.xliff.specs.Sequences.{located}
use Rattle.xliff.specs.Rules.{bad_order, fault_5}
use Rattle.xliff.specs.Focus.{here, order_parts}
use Rattle.xliff.specs.Join.{highest_unused, lower_above, join_order, join_targets, join_parts, join_focus, bad_orders}
use Rattle.xliff.proofs.lists.Tests.{or_left, or_right, and_left, and_right, or_both}
use Rattle.xliff.proofs.rules.Orders.{orders_fit, order_fits, eqb_same}
use Rattle.xliff.proofs.operations.SplitTarget.{orders_append, fault_5_fits}
use Rattle.xliff.proofs.operations.SetValid.{rule_5_back, fits_ext, orders_length, among_append}
use Rattle.xliff.proofs.rules.Unused.{highest_fits}
use Rattle.xliff.proofs.operations.JoinTarget.{list_join, few}
use Rattle.xliff.proofs.operations.SplitOrders.{orders_map}

-- lowering keeps different orders different, where none is h
lower_same : (h a b : ℕ) → (a ≡ h → ⊥) → (b ≡ h → ⊥) → eqb (lower_above h a) (lower_above h b) ≡ eqb a b
unfolding lower_above
lower_same h a b n m = by (ltb h a) (ltb h b) refl refl
  where
    below : (x : ℕ) → (x ≡ h → ⊥) → x ≤ h → x < h
    below x d l = pick (eqb x h) refl
      where
        pick : (c : Bool) → eqb x h ≡ c → x < h
        pick true z = absurd (d (eqb-true x h z))
        pick false z = omega (arith, eqb-false x h z)

    by : (s t : Bool) → ltb h a ≡ s → ltb h b ≡ t → eqb (cond s (a - 1) a) (cond t (b - 1) b) ≡ eqb a b
    by true true e f =
        let u : h < a = ltb-true h a e in
        let v : h < b = ltb-true h b f in
        eqb_same (a - 1) (b - 1) a b (λ z. omega arith) (λ z. omega arith)
    by true false e f =
        let u : h < a = ltb-true h a e in
        let v : b < h = below b m (ltb-false h b f) in
        eqb_same (a - 1) b a b (λ z. absurd (let y : ⊥ = omega arith in y)) (λ z. absurd (let y : ⊥ = omega arith in y))
    by false true e f =
        let u : a < h = below a n (ltb-false h a e) in
        let v : h < b = ltb-true h b f in
        eqb_same a (b - 1) a b (λ z. absurd (let y : ⊥ = omega arith in y)) (λ z. absurd (let y : ⊥ = omega arith in y))
    by false false e f = refl

among_lower : (h k : ℕ) (l : List ℕ) → (k ≡ h → ⊥) → among h l ≡ false → among (lower_above h k) (map (lower_above h) l) ≡ among k l
unfolding among
among_lower h k [] n e = refl
among_lower h k (x ∷ l) n e =
    ap₂ ◌||◌ (lower_same h k x n (λ z. eqb-false h x (or_left _ _ e) (sym z))) (among_lower h k l n (or_right (eqb h x) _ e))

lower_bounds : (h x n : ℕ) → 1 ≤ h → h ≤ suc n → (x ≡ h → ⊥) → 1 ≤ x → x ≤ suc n → (1 ≤ lower_above h x) × (lower_above h x ≤ n)
unfolding lower_above
lower_bounds h x n p q d l u = by (ltb h x) refl
  where
    by : (b : Bool) → ltb h x ≡ b → (1 ≤ cond b (x - 1) x) × (cond b (x - 1) x ≤ n)
    by true e = let g : h < x = ltb-true h x e in (omega arith, omega arith)
    by false e = (l, pick (eqb x h) refl)
      where
        pick : (c : Bool) → eqb x h ≡ c → x ≤ n
        pick true z = absurd (d (eqb-true x h z))
        pick false z = let g : x ≤ h = ltb-false h x e in omega (arith, eqb-false x h z)

pub fits_lower : (n h : ℕ) (used qs : List ℕ) → 1 ≤ h → h ≤ suc n → among h used ≡ false → among h qs ≡ false → orders_fit (suc n) used qs ≡ true
    → orders_fit n (map (lower_above h) used) (map (lower_above h) qs) ≡ true
unfolding orders_fit bad_order among
fits_lower n h used [] p q u w e = refl
fits_lower n h used (x ∷ qs) p q u w e =
    let f : bad_order (suc n) used x ≡ false = not-true _ (and_left _ _ e) in
    let z : eqb x 0 ≡ false = or_left (eqb x 0) (ltb (suc n) x || among x used) f in
    let r : ltb (suc n) x || among x used ≡ false = or_right (eqb x 0) _ f in
    let d : x ≡ h → ⊥ = λ y. eqb-false h x (or_left _ _ w) (sym y) in
    let b = lower_bounds h x n p q d (omega (arith, eqb-false x 0 z)) (ltb-false (suc n) x (or_left _ _ r)) in
    rw (ne_eqb (lower_above h x) 0 (λ y. omega (arith, b.0)), le-ltb n (lower_above h x) b.1, among_lower h x used d u, or_right (ltb (suc n) x) _ r)
    (fits_lower n h (x ∷ used) qs p q (or_both (eqb h x) (among h used) (or_left _ _ w) u) (or_right (eqb h x) _ w) (and_right (not (bad_order (suc n) used x)) _ e))

-- one order less fits too
remove_fits : (n : ℕ) (used qs : List ℕ) (x : ℕ) (rs : List ℕ) → among x rs ≡ false → orders_fit n used (qs ++ (x ∷ rs)) ≡ true → orders_fit n used (qs ++ rs) ≡ true
unfolding orders_fit among
remove_fits n used [] x rs r e =
    fits_ext n (x ∷ used) used rs (λ k m. sym (ap (λ (b : Bool). b || among k used) (ne_eqb k x (λ z. true≢false (sym m ∙ ap (λ (i : ℕ). among i rs) z ∙ r)))))
    (and_right (not (bad_order n used x)) _ e)
remove_fits n used (y ∷ qs) x rs r e =
    let rest : orders_fit n (y ∷ used) (qs ++ rs) ≡ true = remove_fits n (y ∷ used) qs x rs r (and_right (not (bad_order n used y)) _ e) in
    ap (λ (b : Bool). not (bad_order n used y) && b) (rest ∙ sym (and_right (not (bad_order n used y)) _ e)) ∙ e

-- where q + 1 is not used, falling above q is falling above q + 1
lower_next : (q : ℕ) (l : List ℕ) → among (suc q) l ≡ false → map (lower_above q) l ≡ map (lower_above (suc q)) l
unfolding among lower_above
lower_next q [] e = refl
lower_next q (x ∷ l) e = ap₂ {C = List ℕ} ◌∷◌ (by (ltb q x) (ltb (suc q) x) refl refl) (lower_next q l (or_right (eqb (suc q) x) _ e))
  where
    by : (s t : Bool) → ltb q x ≡ s → ltb (suc q) x ≡ t → cond s (x - 1) x ≡ cond t (x - 1) x
    by true true a b = refl
    by true false a b =
        let u : q < x = ltb-true q x a in
        let v : x ≤ suc q = ltb-false (suc q) x b in
        absurd (eqb-false (suc q) x (or_left _ _ e) (let z : suc q ≡ x = omega arith in z))
    by false true a b =
        let u : x ≤ q = ltb-false q x a in
        let v : suc q < x = ltb-true (suc q) x b in
        absurd (let z : ⊥ = omega arith in z)
    by false false a b = refl

changed_5 : (f : ℕ → ℕ) (qs : List Part) → orders_fit (length qs) [] (map f (orders qs)) ≡ true → fault_5 (order_parts f qs) ≡ none
unfolding fault_5 located order_parts
changed_5 f qs e = rule_5_back (length (order_parts f qs)) 3 [] (order_parts f qs) (ap₂ (λ (n : ℕ) (l : List ℕ). orders_fit n [] l) (length-map qs _) (orders_map f qs) ∙ e)

-- at most one target: the orders are the same, one value is unused
one_5 : (b : List Part) (p r : Part) (a : List Part) → order_list (join_targets p.target r.target) ≡ order_list p.target ++ order_list r.target
    → length (order_list p.target ++ order_list r.target) ≤ 1 → fault_5 (b ++ (p ∷ r ∷ a)) ≡ none
    → fault_5 (order_parts (lower_above (highest_unused (length (b ++ (p ∷ r ∷ a))) (orders (b ++ (p ∷ r ∷ a))))) (b ++ (join_parts p r ∷ a))) ≡ none
unfolding orders gather join_parts among
one_5 b p r a lists few e =
    let shown : orders (b ++ (p ∷ r ∷ a)) ≡ orders b ++ (order_list p.target ++ order_list r.target ++ orders a)
    = orders_append b (p ∷ r ∷ a) ∙ ap (λ (l : List ℕ). orders b ++ l) (sym (append_assoc (order_list p.target) (order_list r.target) (orders a))) in
    let same : orders (b ++ (join_parts p r ∷ a)) ≡ orders (b ++ (p ∷ r ∷ a)) = orders_append b (join_parts p r ∷ a) ∙ ap (λ (l : List ℕ). orders b ++ (l ++ orders a)) lists ∙ sym shown in
    let len : length (b ++ (p ∷ r ∷ a)) ≡ suc (length (b ++ (join_parts p r ∷ a))) = omega (arith, length-append b (p ∷ r ∷ a), length-append b (join_parts p r ∷ a)) in
    let less : length (orders (b ++ (p ∷ r ∷ a))) < length (b ++ (p ∷ r ∷ a))
    = omega (
      arith,
      ap length shown,
      length-append (orders b) (order_list p.target ++ order_list r.target ++ orders a),
      length-append (order_list p.target ++ order_list r.target) (orders a),
      length-append b (p ∷ r ∷ a),
      orders_length b,
      orders_length a,
    ) in
    let h = highest_fits (length (b ++ (p ∷ r ∷ a))) (orders (b ++ (p ∷ r ∷ a))) less in
    changed_5 (lower_above (highest_unused (length (b ++ (p ∷ r ∷ a))) (orders (b ++ (p ∷ r ∷ a))))) (b ++ (join_parts p r ∷ a))
    (ap (λ (l : List ℕ). orders_fit (length (b ++ (join_parts p r ∷ a))) [] (map (lower_above (highest_unused (length (b ++ (p ∷ r ∷ a))) (orders (b ++ (p ∷ r ∷ a))))) l)) same
    ∙ fits_lower (length (b ++ (join_parts p r ∷ a))) (highest_unused (length (b ++ (p ∷ r ∷ a))) (orders (b ++ (p ∷ r ∷ a)))) [] (orders (b ++ (p ∷ r ∷ a))) h.1 (omega (arith, h.2)) refl h.0
    (ap (λ (n : ℕ). orders_fit n [] (orders (b ++ (p ∷ r ∷ a)))) (sym len) ∙ fault_5_fits (b ++ (p ∷ r ∷ a)) e))

-- two targets: q + 1 is left out
two_5 : (b : List Part) (p r : Part) (a : List Part) (q : ℕ) (xs ys : Content) → p.target ≡ target q xs → r.target ≡ target (suc q) ys → fault_5 (b ++ (p ∷ r ∷ a)) ≡ none
    → fault_5 (order_parts (lower_above q) (b ++ (join_parts p r ∷ a))) ≡ none
unfolding orders order_list gather join_parts join_targets among
two_5 b p r a q xs ys pt rt e =
    let n : ℕ = length (b ++ (p ∷ r ∷ a)) in
    let fit = fault_5_fits (b ++ (p ∷ r ∷ a)) e in
    let shown : orders (b ++ (p ∷ r ∷ a)) ≡ orders b ++ (q ∷ []) ++ (suc q ∷ orders a)
    = orders_append b (p ∷ r ∷ a) ∙ ap₂ (λ (t u : Target). orders b ++ (order_list t ++ (order_list u ++ orders a))) pt rt ∙ sym (append_assoc (orders b) (q ∷ []) (suc q ∷ orders a)) in
    let fit2 : orders_fit (length (b ++ (p ∷ r ∷ a))) [] (orders b ++ (q ∷ []) ++ (suc q ∷ orders a)) ≡ true = ap (orders_fit (length (b ++ (p ∷ r ∷ a))) []) (sym shown) ∙ fit in
    let two = order_fits (length (b ++ (p ∷ r ∷ a))) [] (orders b ++ (q ∷ [])) (suc q) (orders a) fit2 in
    let less : orders_fit (length (b ++ (p ∷ r ∷ a))) [] (orders b ++ (q ∷ []) ++ orders a) ≡ true
    = remove_fits (length (b ++ (p ∷ r ∷ a))) [] (orders b ++ (q ∷ [])) (suc q) (orders a) two.not_after fit2 in
    let free : among (suc q) (orders b ++ (q ∷ []) ++ orders a) ≡ false = among_append (suc q) (orders b ++ (q ∷ [])) (orders a) ∙ or_both _ _ two.not_before two.not_after in
    let same : orders (b ++ (join_parts p r ∷ a)) ≡ orders b ++ (q ∷ []) ++ orders a
    = orders_append b (join_parts p r ∷ a) ∙ ap₂ (λ (t u : Target). orders b ++ (order_list (join_targets t u) ++ orders a)) pt rt ∙ sym (append_assoc (orders b) (q ∷ []) (orders a)) in
    let len : length (b ++ (p ∷ r ∷ a)) ≡ suc (length (b ++ (join_parts p r ∷ a))) = omega (arith, length-append b (p ∷ r ∷ a), length-append b (join_parts p r ∷ a)) in
    changed_5 (lower_above q) (b ++ (join_parts p r ∷ a))
    (ap (λ (l : List ℕ). orders_fit (length (b ++ (join_parts p r ∷ a))) [] l) (ap (map (lower_above q)) same ∙ lower_next q (orders b ++ (q ∷ []) ++ orders a) free)
    ∙ fits_lower (length (b ++ (join_parts p r ∷ a))) (suc q) [] (orders b ++ (q ∷ []) ++ orders a) (omega arith) (omega (arith, two.high)) refl free
    (ap (λ (k : ℕ). orders_fit k [] (orders b ++ (q ∷ []) ++ orders a)) (sym len) ∙ less))

-- Join keeps 5
pub join_5 : (b : List Part) (p r : Part) (a : List Part) → fault_5 (b ++ (p ∷ r ∷ a)) ≡ none → bad_orders p.target r.target ≡ false
    → fault_5 (join_focus (b ++ (p ∷ r ∷ a)) (here b p (r ∷ a))) ≡ none
unfolding join_focus join_order bad_orders
join_5 b p r a e o = by p.target r.target refl refl o
  where
    single : (p.target ≡ no_target) ⊎ (r.target ≡ no_target)
        → fault_5 (order_parts (lower_above (highest_unused (length (b ++ (p ∷ r ∷ a))) (orders (b ++ (p ∷ r ∷ a))))) (b ++ (join_parts p r ∷ a))) ≡ none
    single w = one_5 b p r a (list_join p.target r.target w) (few p.target r.target w) e

    by : (g h : Target) → p.target ≡ g → r.target ≡ h → bad_orders g h ≡ false → fault_5 (order_parts (join_order (b ++ (p ∷ r ∷ a)) g h) (b ++ (join_parts p r ∷ a))) ≡ none
    by no_target no_target x y k = single (inl x)
    by no_target (target s ys) x y k = single (inl x)
    by (target q xs) no_target x y k = single (inr y)
    by (target q xs) (target s ys) x y k = two_5 b p r a q xs ys x (y ∙ ap (λ (z : ℕ). target z ys) (eqb-true s (suc q) (not-false _ k))) e
