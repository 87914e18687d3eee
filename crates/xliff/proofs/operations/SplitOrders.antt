-- Laws of split: the orders of the result meet 5.
use Prim.Native.Nat.{ℕ, suc, ◌<◌, ◌≤◌}
use mathlib.Core.Path.{◌≡◌, refl, sym, ap, ap₂, ◌∙◌}
use mathlib.Core.Bool.{Bool, true, false, not, ◌||◌, cond}
use mathlib.Core.List.{List, [], ◌∷◌, ◌++◌, map, append_assoc}
use mathlib.Core.Option.{none}
use native.Mathlib.Omega.{arith}
use lib.ListN.{length, length-append, length-map}
use lib.Dec.{eqb, ltb}
use borrow.Author.Tests.{eqb-false, ne_eqb, ltb-true, ltb-false, le-ltb, not-true}
use Rattle.xliff.specs.Bytes.{among, gather}
use Rattle.xliff.specs.Unit.{Target, no_target, target, Part, order_list, orders}
use Rattle.xliff.specs.Sequences.{located}
use Rattle.xliff.specs.Rules.{bad_order, fault_5}
use Rattle.xliff.specs.Focus.{here, order_target, order_part, order_parts}
use Rattle.xliff.specs.Split.{raise_above, first_target, second_target, first_half, second_half, split_order, split_focus}
use Rattle.xliff.proofs.lists.Tests.{or_left, or_right, and_left, and_right, map-append, map_stays, or_both}
use Rattle.xliff.proofs.rules.Orders.{orders_fit, order_fits, eqb_same}
use Rattle.xliff.proofs.operations.SplitTarget.{orders_append, fault_5_fits}
use Rattle.xliff.proofs.operations.SetValid.{rule_5_back, insert_fits, among_append}

-- the orders of changed parts
pub orders_map : (f : ℕ → ℕ) (ps : List Part) → orders (order_parts f ps) ≡ map f (orders ps)
unfolding orders order_list gather order_parts order_part order_target
orders_map f [] = refl
orders_map f (p ∷ ps) = by p.target (orders_map f ps)
  where
    by : (g : Target) → orders (order_parts f ps) ≡ map f (orders ps)
        → order_list (order_target f g) ++ orders (order_parts f ps) ≡ map f (order_list g ++ orders ps)
    by no_target e = e
    by (target q xs) e = ap {B = List ℕ} (λ l. f q ∷ l) e

-- raising keeps different orders different
raise_same : (q a b : ℕ) → eqb (raise_above q a) (raise_above q b) ≡ eqb a b
unfolding raise_above
raise_same q a b = by (ltb q a) (ltb q b) refl refl
  where
    by : (s t : Bool) → ltb q a ≡ s → ltb q b ≡ t → eqb (cond s (suc a) a) (cond t (suc b) b) ≡ eqb a b
    by true true e f = eqb_same (suc a) (suc b) a b (λ z. omega arith) (λ z. omega arith)
    by true false e f =
        let h : q < a = ltb-true q a e in
        let k : b ≤ q = ltb-false q b f in
        eqb_same (suc a) b a b (λ z. absurd (let y : ⊥ = omega arith in y)) (λ z. absurd (let y : ⊥ = omega arith in y))
    by false true e f =
        let h : a ≤ q = ltb-false q a e in
        let k : q < b = ltb-true q b f in
        eqb_same a (suc b) a b (λ z. absurd (let y : ⊥ = omega arith in y)) (λ z. absurd (let y : ⊥ = omega arith in y))
    by false false e f = refl

among_raise : (q k : ℕ) (l : List ℕ) → among (raise_above q k) (map (raise_above q) l) ≡ among k l
unfolding among
among_raise q k [] = refl
among_raise q k (x ∷ l) = ap₂ ◌||◌ (raise_same q k x) (among_raise q k l)

raise_bounds : (q x n : ℕ) → 1 ≤ x → x ≤ n → (1 ≤ raise_above q x) × (raise_above q x ≤ suc n)
unfolding raise_above
raise_bounds q x n l h = by (ltb q x)
  where
    by : (b : Bool) → (1 ≤ cond b (suc x) x) × (cond b (suc x) x ≤ suc n)
    by true = (omega arith, omega arith)
    by false = (omega arith, omega arith)

no_gap : (q : ℕ) (l : List ℕ) → among (suc q) (map (raise_above q) l) ≡ false
unfolding among raise_above
no_gap q [] = refl
no_gap q (x ∷ l) = or_both _ _ (by (ltb q x) refl) (no_gap q l)
  where
    by : (b : Bool) → ltb q x ≡ b → eqb (suc q) (cond b (suc x) x) ≡ false
    by true e = let h : q < x = ltb-true q x e in ne_eqb (suc q) (suc x) (λ z. omega arith)
    by false e = let h : x ≤ q = ltb-false q x e in ne_eqb (suc q) x (λ z. omega arith)

-- raised orders fit among one more
fits_raise : (n q : ℕ) (used qs : List ℕ) → orders_fit n used qs ≡ true
    → orders_fit (suc n) (map (raise_above q) used) (map (raise_above q) qs) ≡ true
unfolding orders_fit bad_order
fits_raise n q used [] e = refl
fits_raise n q used (x ∷ qs) e =
    let f : bad_order n used x ≡ false = not-true _ (and_left _ _ e) in
    let z : eqb x 0 ≡ false = or_left (eqb x 0) (ltb n x || among x used) f in
    let r : ltb n x || among x used ≡ false = or_right (eqb x 0) _ f in
    let b = raise_bounds q x n (omega (arith, eqb-false x 0 z)) (ltb-false n x (or_left _ _ r)) in
    rw (ne_eqb (raise_above q x) 0 (λ y. omega (arith, b.0)), le-ltb (suc n) (raise_above q x) b.1, among_raise q x used, or_right (ltb n x) _ r)
    (fits_raise n q (x ∷ used) qs (and_right (not (bad_order n used x)) _ e))

raise_own : (q : ℕ) → raise_above q q ≡ q
unfolding raise_above
raise_own q = rw (le-ltb q q (omega arith))

append_snoc : (l : List ℕ) (x : ℕ) (m : List ℕ) → l ++ (x ∷ m) ≡ l ++ (x ∷ []) ++ m
append_snoc l x m = sym (append_assoc l (x ∷ []) m)

-- q and then q + 1, the others raised
pub split_fits : (n q : ℕ) (qs rs : List ℕ) → orders_fit n [] (qs ++ (q ∷ rs)) ≡ true
    → orders_fit (suc n) [] (map (raise_above q) qs ++ (q ∷ suc q ∷ map (raise_above q) rs)) ≡ true
unfolding among
split_fits n q qs rs e =
    let o = order_fits n [] qs q rs e in
    let r : orders_fit (suc n) [] (map (raise_above q) qs ++ (q ∷ []) ++ map (raise_above q) rs) ≡ true
    = ap (orders_fit (suc n) [])
    (append_assoc (map (raise_above q) qs) (q ∷ []) (map (raise_above q) rs)
    ∙ ap (λ (z : ℕ). map (raise_above q) qs ++ (z ∷ map (raise_above q) rs)) (sym (raise_own q)) ∙ sym (map-append (raise_above q) qs (q ∷ rs)))
    ∙ fits_raise n q [] (qs ++ (q ∷ rs)) e in
    ap (orders_fit (suc n) []) (append_snoc (map (raise_above q) qs) q (suc q ∷ map (raise_above q) rs))
    ∙ insert_fits (suc n) [] (map (raise_above q) qs ++ (q ∷ [])) (suc q) (map (raise_above q) rs) (omega arith) (omega (arith, o.high)) refl
    (among_append (suc q) (map (raise_above q) qs) (q ∷ [])
    ∙ or_both _ _ (no_gap q qs) (or_both _ _ (ne_eqb (suc q) q (λ z. omega arith)) refl)) (no_gap q rs) r

-- orders that fit among n fit among one more
fits_more : (n : ℕ) (used qs : List ℕ) → orders_fit n used qs ≡ true → orders_fit (suc n) used qs ≡ true
unfolding orders_fit bad_order
fits_more n used [] e = refl
fits_more n used (x ∷ qs) e =
    let f : bad_order n used x ≡ false = not-true _ (and_left _ _ e) in
    let z : eqb x 0 ≡ false = or_left (eqb x 0) (ltb n x || among x used) f in
    let r : ltb n x || among x used ≡ false = or_right (eqb x 0) _ f in
    rw (z, le-ltb (suc n) x (let h : x ≤ n = ltb-false n x (or_left _ _ r) in omega arith), or_right (ltb n x) _ r)
    (fits_more n (x ∷ used) qs (and_right (not (bad_order n used x)) _ e))

counted : (f : ℕ → ℕ) (b : List Part) (p x y : Part) (a : List Part)
    → length (order_parts f b ++ (x ∷ y ∷ order_parts f a)) ≡ suc (length (b ++ (p ∷ a)))
unfolding order_parts
counted f b p x y a = simp (length-append, length-map) (omega arith)

-- Split keeps 5
pub split_5 : (source_cut target_cut new : ℕ) (b : List Part) (p : Part) (a : List Part) → fault_5 (b ++ (p ∷ a)) ≡ none
    → fault_5 (split_focus source_cut target_cut new (b ++ (p ∷ a)) (here b p a)) ≡ none
unfolding fault_5 located split_focus orders order_list gather first_half second_half first_target second_target split_order
split_5 source_cut target_cut new b p a e = by p.target refl (fault_5_fits (b ++ (p ∷ a)) e)
  where
    count : (f : ℕ → ℕ) (x y : Part) → length (order_parts f b ++ (x ∷ y ∷ order_parts f a)) ≡ suc (length (b ++ (p ∷ a)))
    count f x y = counted f b p x y a

    by : (g : Target) → p.target ≡ g → orders_fit (length (b ++ (p ∷ a))) [] (orders (b ++ (p ∷ a))) ≡ true
        → fault_5 (order_parts (split_order g) b ++
        (first_half source_cut target_cut p ∷ second_half source_cut target_cut new p ∷ order_parts (split_order g) a)) ≡ none
    by no_target g k =
        rule_5_back _ 3 [] _
        (ap₂ (λ (n : ℕ) (l : List ℕ). orders_fit n [] l)
        (count (split_order no_target) (first_half source_cut target_cut p) (second_half source_cut target_cut new p))
        (orders_append (order_parts (split_order no_target) b) _
        ∙ ap₂ (λ (l m : List ℕ). l ++ m) (orders_map (split_order no_target) b ∙ map_stays (split_order no_target) (λ x. refl) (orders b))
        (ap₂ (λ (t : Target) (l : List ℕ). order_list (first_target target_cut t) ++ (order_list (second_target target_cut t) ++ l)) g
        (orders_map (split_order no_target) a ∙ map_stays (split_order no_target) (λ x. refl) (orders a))))
        ∙ fits_more (length (b ++ (p ∷ a))) [] (orders b ++ orders a)
        (ap (orders_fit (length (b ++ (p ∷ a))) [])
        (sym (orders_append b (p ∷ a) ∙ ap (λ (t : Target). orders b ++ (order_list t ++ orders a)) g)) ∙ k))
    by (target q xs) g k =
        rule_5_back _ 3 [] _
        (ap₂ (λ (n : ℕ) (l : List ℕ). orders_fit n [] l)
        (count (raise_above q) (first_half source_cut target_cut p) (second_half source_cut target_cut new p))
        (orders_append (order_parts (raise_above q) b) _
        ∙ ap₂ (λ (l m : List ℕ). l ++ m) (orders_map (raise_above q) b)
        (ap₂ (λ (t : Target) (l : List ℕ). order_list (first_target target_cut t) ++ (order_list (second_target target_cut t) ++ l)) g
        (orders_map (raise_above q) a)))
        ∙ split_fits (length (b ++ (p ∷ a))) q (orders b) (orders a)
        (ap (orders_fit (length (b ++ (p ∷ a))) [])
        (sym (orders_append b (p ∷ a) ∙ ap (λ (t : Target). orders b ++ (order_list t ++ orders a)) g)) ∙ k))
