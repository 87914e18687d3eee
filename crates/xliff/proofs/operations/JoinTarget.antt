-- Laws of join and rewrite: with 5 met, the target sequence stays (of a rewrite, flattened).
use Prim.Native.Nat.{ℕ, zero, suc, ◌+◌, ◌-◌, ◌<◌, ◌≤◌}
use mathlib.Core.Path.{◌≡◌, refl, sym, ap, ap₂, ◌∙◌, subst}
use mathlib.Core.Bool.{Bool, true, false, cond}
use mathlib.Core.List.{List, [], ◌∷◌, ◌++◌, map, append_assoc, append-nil}
use mathlib.Core.Option.{none}
use mathlib.Core.Logic.{◌⊎◌, inl, inr}
use native.Mathlib.Omega.{arith}
use lib.ListN.{length, length-append, length-map}
use lib.Dec.{eqb, ltb}
use borrow.Author.Tests.{eqb-true, eqb-false, ltb-true, ltb-false, lt-ltb, le-ltb, not-false}
use Rattle.xliff.specs.Bytes.{'S', gather, among}
use Rattle.xliff.specs.Item.{Content, Form, flattened}
use Rattle.xliff.specs.Unit.{Target, no_target, target, Part, of_order, target_of_order, targets, target_sequence, order_list, orders}
use Rattle.xliff.specs.Rules.{fault_5}
use Rattle.xliff.specs.Focus.{here, order_target, order_part, order_parts}
use Rattle.xliff.specs.Join.{highest_unused, lower_above, join_order, join_targets, join_parts, join_focus, bad_orders}
use Rattle.xliff.specs.Rewrite.{rewrite_item, rewrite_target, rewrite_part}
use Rattle.xliff.proofs.lists.Tests.{map-append, or_left, or_right}
use Rattle.xliff.proofs.operations.Sources.{flattened_append, flattened_map, flat_rewrite}
use Rattle.xliff.proofs.rules.Orders.{orders_fit, order_fits, unused_order, eqb_same, targets_add, targets_same, target_append, split_targets}
use Rattle.xliff.proofs.rules.Unused.{highest_fits}
use Rattle.xliff.proofs.operations.SetValid.{orders_length, among_append}
use Rattle.xliff.specs.Split.{raise_above}
use Rattle.xliff.proofs.operations.SplitTarget.{orders_append, fault_5_fits}

-- Rewriting keeps the target sequence, flattened
flattened_of_order : (i : ℕ) (w : Form) (q : ℕ) (g : Target) → flattened (of_order q (rewrite_target (rewrite_item i w) g)) ≡ flattened (of_order q g)
unfolding of_order rewrite_target
flattened_of_order i w q no_target = refl
flattened_of_order i w q (target r xs) = by (eqb q r)
  where
    by : (b : Bool) → flattened (cond b (map (rewrite_item i w) xs) []) ≡ flattened (cond b xs [])
    by true = flattened_map (rewrite_item i w) (flat_rewrite i w) xs
    by false = refl

rewrite_of_order : (side i : ℕ) (w : Form) (q : ℕ) (ps : List Part)
    → flattened (target_of_order (map (rewrite_part side (rewrite_item i w)) ps) q) ≡ flattened (target_of_order ps q)
unfolding target_of_order gather rewrite_part
rewrite_of_order side i w q [] = refl
rewrite_of_order side i w q (p ∷ ps) =
    flattened_append (of_order q (rewrite_part side (rewrite_item i w) p).target) (target_of_order (map (rewrite_part side (rewrite_item i w)) ps) q)
    ∙ ap₂ ◌++◌ (by (eqb side 'S')) (rewrite_of_order side i w q ps)
    ∙ sym (flattened_append (of_order q p.target) (target_of_order ps q))
  where
    by : (b : Bool) → flattened (of_order q
        (cond {A = Part} b (record { head = p.head; source = map (rewrite_item i w) p.source; target = p.target })
        (record { head = p.head; source = p.source; target = rewrite_target (rewrite_item i w) p.target })).target)
        ≡ flattened (of_order q p.target)
    by true = refl
    by false = flattened_of_order i w q p.target

rewrite_targets : (side i : ℕ) (w : Form) (q n : ℕ) (ps : List Part)
    → flattened (targets (map (rewrite_part side (rewrite_item i w)) ps) q n) ≡ flattened (targets ps q n)
unfolding targets
rewrite_targets side i w q zero ps = refl
rewrite_targets side i w q (suc n) ps =
    flattened_append (target_of_order (map (rewrite_part side (rewrite_item i w)) ps) (suc q))
    (targets (map (rewrite_part side (rewrite_item i w)) ps) (suc q) n)
    ∙ ap₂ ◌++◌ (rewrite_of_order side i w (suc q) ps) (rewrite_targets side i w (suc q) n ps)
    ∙ sym (flattened_append (target_of_order ps (suc q)) (targets ps (suc q) n))

pub rewrite_target_sequence : (side i : ℕ) (w : Form) (ps : List Part)
    → flattened (target_sequence (map (rewrite_part side (rewrite_item i w)) ps)) ≡ flattened (target_sequence ps)
unfolding target_sequence
rewrite_target_sequence side i w ps =
    ap (λ (n : ℕ). flattened (targets (map (rewrite_part side (rewrite_item i w)) ps) 0 n)) (length-map ps (rewrite_part side (rewrite_item i w)))
    ∙ rewrite_targets side i w 0 (length ps) ps

-- Join. Orders above h fall by 1, where no target has the order h
moved_but : (f : ℕ → ℕ) (q r h : ℕ) (ps : List Part) → among h (orders ps) ≡ false → ((o : ℕ) → (o ≡ h → ⊥) → (q ≡ f o → r ≡ o) × (r ≡ o → q ≡ f o))
    → target_of_order (order_parts f ps) q ≡ target_of_order ps r
unfolding target_of_order order_parts order_part gather of_order order_target orders order_list among
moved_but f q r h [] n w = refl
moved_but f q r h (p ∷ ps) n w = by p.target n (moved_but f q r h ps)
  where
    by : (g : Target) → among h (order_list g ++ orders ps) ≡ false
        → (among h (orders ps) ≡ false → ((o : ℕ) → (o ≡ h → ⊥) → (q ≡ f o → r ≡ o) × (r ≡ o → q ≡ f o))
        → target_of_order (order_parts f ps) q ≡ target_of_order ps r)
        → of_order q (order_target f g) ++ target_of_order (order_parts f ps) q ≡ of_order r g ++ target_of_order ps r
    by no_target k ih = ih k w
    by (target o xs) k ih =
        let d = w o (λ z. eqb-false h o (or_left (eqb h o) _ k) (sym z)) in
        ap₂ (λ (b : Bool) (l : Content). cond b xs [] ++ l) (eqb_same q (f o) r o d.0 d.1) (ih (or_right (eqb h o) _ k) w)

lowered_low : (h k o : ℕ) → k < h → (o ≡ h → ⊥) → (k ≡ lower_above h o → k ≡ o) × (k ≡ o → k ≡ lower_above h o)
unfolding lower_above
lowered_low h k o l n = by (ltb h o) refl
  where
    by : (b : Bool) → ltb h o ≡ b → (k ≡ cond b (o - 1) o → k ≡ o) × (k ≡ o → k ≡ cond b (o - 1) o)
    by true e = let g : h < o = ltb-true h o e in (λ p. absurd (let z : ⊥ = omega arith in z), λ p. absurd (let z : ⊥ = omega arith in z))
    by false e = (λ p. p, λ p. p)

lowered_high : (h k o : ℕ) → h ≤ k → (o ≡ h → ⊥) → (k ≡ lower_above h o → suc k ≡ o) × (suc k ≡ o → k ≡ lower_above h o)
unfolding lower_above
lowered_high h k o l n = by (ltb h o) refl
  where
    by : (b : Bool) → ltb h o ≡ b → (k ≡ cond b (o - 1) o → suc k ≡ o) × (suc k ≡ o → k ≡ cond b (o - 1) o)
    by true e = let g : h < o = ltb-true h o e in (λ p. omega arith, λ p. omega arith)
    by false e =
        let g : o ≤ h = ltb-false h o e in
        (λ p. absurd (n (let z : o ≡ h = omega arith in z)), λ p. absurd (let z : ⊥ = omega arith in z))

-- one part fewer, the same targets, and an order h that none has
pub lower_targets : (h : ℕ) (qs ps : List Part) → 1 ≤ h → h ≤ length ps → length ps ≡ suc (length qs)
    → ((k : ℕ) → target_of_order qs k ≡ target_of_order ps k)
    → among h (orders qs) ≡ false → target_sequence (order_parts (lower_above h) qs) ≡ target_sequence ps
unfolding target_sequence targets order_parts
lower_targets h qs ps low high len same free =
    let new : List Part = order_parts (lower_above h) qs in
    let m : ℕ = length qs - (h - 1) in
    let count : length (order_parts (lower_above h) qs) ≡ (h - 1) + m = length-map qs (order_part (lower_above h))
    ∙ (let e : length qs ≡ (h - 1) + m = omega arith in e) in
    ap (targets new 0) count ∙ targets_add new 0 (h - 1) m
    ∙ ap₂ ◌++◌ (targets_same new ps 0 0 (h - 1)
    (λ k l. moved_but (lower_above h) (suc (0 + k)) (suc (0 + k)) h qs free (λ o n. lowered_low h (suc (0 + k)) o (omega arith) n)
    ∙ same (suc (0 + k))))
    (targets_same new ps (0 + (h - 1)) h m (λ k l.
    moved_but (lower_above h) (suc (0 + (h - 1) + k)) (suc (suc (0 + (h - 1) + k))) h qs free
    (λ o n. lowered_high h (suc (0 + (h - 1) + k)) o (omega arith) n)
    ∙ same (suc (suc (0 + (h - 1) + k))) ∙ ap (target_of_order ps) (let e : suc (suc (0 + (h - 1) + k)) ≡ suc (h + k) = omega arith in e)))
    ∙ sym
    (ap (targets ps 0) (let e : length ps ≡ (h - 1) + suc m = omega arith in e) ∙ targets_add ps 0 (h - 1) (suc m)
    ∙ ap (λ (z : ℕ). targets ps 0 (h - 1) ++ (target_of_order ps z ++ targets ps z m)) (let e : suc (0 + (h - 1)) ≡ h = omega arith in e)
    ∙ ap (λ (l : Content). targets ps 0 (h - 1) ++ (l ++ targets ps h m)) (sym (same h) ∙ unused_order h qs free))

-- at most one of the two has a target
module _ (b : List Part) (p q : Part) (a : List Part) where
  abbrev before : List Part
  before = b ++ (p ∷ q ∷ a)

  abbrev joined : List Part
  joined = b ++ (join_parts p q ∷ a)

  one_target : ((k : ℕ) → of_order k (join_targets p.target q.target) ≡ of_order k p.target ++ of_order k q.target)
      → order_list (join_targets p.target q.target) ≡ order_list p.target ++ order_list q.target
      → length (order_list p.target ++ order_list q.target) ≤ 1
      → target_sequence (order_parts (lower_above (highest_unused (length before) (orders before))) joined) ≡ target_sequence before
  unfolding join_parts target_of_order orders gather
  one_target same lists few =
      let shown : orders before ≡ orders b ++ (order_list p.target ++ order_list q.target ++ orders a)
      = orders_append b (p ∷ q ∷ a)
      ∙ ap (λ (l : List ℕ). orders b ++ l) (sym (append_assoc (order_list p.target) (order_list q.target) (orders a))) in
      let equal : orders joined ≡ orders before = orders_append b (join_parts p q ∷ a)
      ∙ ap (λ (l : List ℕ). orders b ++ (l ++ orders a)) lists ∙ sym shown in
      let less : length (orders before) < length before
      = omega (
        arith,
        ap length shown,
        length-append (orders b) (order_list p.target ++ order_list q.target ++ orders a),
        length-append (order_list p.target ++ order_list q.target) (orders a),
        length-append b (p ∷ q ∷ a),
        orders_length b,
        orders_length a,
      ) in
      let h = highest_fits (length before) (orders before) less in
      lower_targets (highest_unused (length before) (orders before)) joined before h.1 h.2
      (omega (arith, length-append b (p ∷ q ∷ a), length-append b (join_parts p q ∷ a)))
      (λ k. target_append b (join_parts p q ∷ a) k
      ∙ ap (λ (l : Content). target_of_order b k ++ l)
      (ap (λ (l : Content). l ++ target_of_order a k) (same k) ∙ append_assoc (of_order k p.target) (of_order k q.target) (target_of_order a k))
      ∙ sym (target_append b (p ∷ q ∷ a) k))
      (ap (among (highest_unused (length before) (orders before))) equal ∙ h.0)

-- both have: it is a split the other way round. What falls and rises again is as it was
lower_raise : (q o : ℕ) → (o ≡ suc q → ⊥) → raise_above q (lower_above q o) ≡ o
unfolding raise_above lower_above
lower_raise q o d = by (ltb q o) refl
  where
    by : (b : Bool) → ltb q o ≡ b → cond (ltb q (cond b (o - 1) o)) (suc (cond b (o - 1) o)) (cond b (o - 1) o) ≡ o
    by true e =
        let g : q < o = ltb-true q o e in
        rw (lt-ltb q (o - 1) (let l : q < o - 1 = further g in l)) (omega arith)
      where
        further : q < o → q < o - 1
        further g = pick (eqb o (suc q)) refl
          where
            pick : (c : Bool) → eqb o (suc q) ≡ c → q < o - 1
            pick true z = absurd (d (eqb-true o (suc q) z))
            pick false z = omega (arith, eqb-false o (suc q) z)
    by false e = rw e

rise_again : (q : ℕ) (ps : List Part) → among (suc q) (orders ps) ≡ false → order_parts (raise_above q) (order_parts (lower_above q) ps) ≡ ps
unfolding order_parts order_part order_target orders order_list gather among
rise_again q [] n = refl
rise_again q (p ∷ ps) n =
    ap₂ {C = List Part} ◌∷◌ (ap (λ (t : Target). record { head = p.head; source = p.source; target = t }) (back p.target n))
    (rise_again q ps (rest p.target n))
  where
    rest : (g : Target) → among (suc q) (order_list g ++ orders ps) ≡ false → among (suc q) (orders ps) ≡ false
    rest no_target k = k
    rest (target o xs) k = or_right (eqb (suc q) o) _ k

    back : (g : Target) → among (suc q) (order_list g ++ orders ps) ≡ false → order_target (raise_above q) (order_target (lower_above q) g) ≡ g
    back no_target k = refl
    back (target o xs) k = ap (λ (z : ℕ). target z xs) (lower_raise q o (λ z. eqb-false (suc q) o (or_left _ _ k) (sym z)))

lowered_own : (q o : ℕ) → (o ≡ suc q → ⊥) → (q ≡ lower_above q o → q ≡ o) × (q ≡ o → q ≡ lower_above q o)
unfolding lower_above
lowered_own q o d = by (ltb q o) refl
  where
    by : (b : Bool) → ltb q o ≡ b → (q ≡ cond b (o - 1) o → q ≡ o) × (q ≡ o → q ≡ cond b (o - 1) o)
    by true e = let g : q < o = ltb-true q o e in (λ p. absurd (d (let z : o ≡ suc q = omega arith in z)), λ p. absurd (let z : ⊥ = omega arith in z))
    by false e = (λ p. p, λ p. p)

pub lower_self : (q : ℕ) → lower_above q q ≡ q
unfolding lower_above
lower_self q = rw (le-ltb q q (omega arith))

target_of_part : (q : ℕ) (xs ys : Content) (g h : Target) → g ≡ target q xs → h ≡ target (suc q) ys
    → order_target (lower_above q) (join_targets g h) ≡ target q (xs ++ ys)
unfolding order_target join_targets
target_of_part q xs ys g h e f = rw (e, f) (ap (λ (z : ℕ). target z (xs ++ ys)) (lower_self q))

lengths : (q : ℕ) (b : List Part) (p r : Part) (a : List Part)
    → length (b ++ (p ∷ r ∷ a))
    ≡ suc (length (order_parts (lower_above q) b ++ (order_part (lower_above q) (join_parts p r) ∷ order_parts (lower_above q) a)))
unfolding order_parts
lengths q b p r a = simp (length-append, length-map) (omega arith)

finish : (b : List Part) (p r : Part) (a : List Part) (q : ℕ) (xs ys : Content)
    → (u v : Content) ×
    (target_sequence (order_parts (lower_above q) b ++ (order_part (lower_above q) (join_parts p r) ∷ order_parts (lower_above q) a))
    ≡ u ++ ((xs ++ ys) ++ v))
    × (target_sequence
    (order_parts (raise_above q) (order_parts (lower_above q) b) ++ (p ∷ r ∷ order_parts (raise_above q) (order_parts (lower_above q) a)))
    ≡ u ++ ((xs ++ ys) ++ v))
    → among (suc q) (orders b) ≡ false → among (suc q) (orders a) ≡ false
    → target_sequence (order_parts (lower_above q) (b ++ (join_parts p r ∷ a))) ≡ target_sequence (b ++ (p ∷ r ∷ a))
unfolding order_parts
finish b p r a q xs ys s fb fa =
    ap target_sequence (map-append (order_part (lower_above q)) b (join_parts p r ∷ a)) ∙ s.2 ∙ sym s.3
    ∙ ap₂ (λ (l m : List Part). target_sequence (l ++ (p ∷ r ∷ m))) (rise_again q b fb) (rise_again q a fa)

-- both have a target
two_targets : (b : List Part) (p r : Part) (a : List Part) (q : ℕ) (xs ys : Content) → p.target ≡ target q xs → r.target ≡ target (suc q) ys
    → orders_fit (length (b ++ (p ∷ r ∷ a))) [] (orders (b ++ (p ∷ r ∷ a))) ≡ true
    → target_sequence (order_parts (lower_above q) (b ++ (join_parts p r ∷ a))) ≡ target_sequence (b ++ (p ∷ r ∷ a))
unfolding orders order_list gather join_parts join_targets among order_part order_target
two_targets b p r a q xs ys pt rt fits =
    let old : List Part = b ++ (p ∷ r ∷ a) in
    let lb : List Part = order_parts (lower_above q) b in
    let la : List Part = order_parts (lower_above q) a in
    let j : Part = order_part (lower_above q) (join_parts p r) in
    let shown : orders (b ++ (p ∷ r ∷ a)) ≡ orders b ++ (q ∷ suc q ∷ orders a)
    = orders_append b (p ∷ r ∷ a) ∙ ap₂ (λ (t u : Target). orders b ++ (order_list t ++ (order_list u ++ orders a))) pt rt in
    let one = order_fits (length (b ++ (p ∷ r ∷ a))) [] (orders b) q (suc q ∷ orders a)
    (ap (orders_fit (length (b ++ (p ∷ r ∷ a))) []) (sym shown) ∙ fits) in
    let two = order_fits (length (b ++ (p ∷ r ∷ a))) [] (orders b ++ (q ∷ [])) (suc q) (orders a)
    (ap (orders_fit (length (b ++ (p ∷ r ∷ a))) []) (append_assoc (orders b) (q ∷ []) (suc q ∷ orders a) ∙ sym shown) ∙ fits) in
    let fb : among (suc q) (orders b) ≡ false = or_left _ _ (sym (among_append (suc q) (orders b) (q ∷ [])) ∙ two.not_before) in
    let fa : among (suc q) (orders a) ≡ false = two.not_after in
    let jt : j.target ≡ target q (xs ++ ys) = target_of_part q xs ys p.target r.target pt rt in
    let nb : target_of_order lb q ≡ [] = moved_but (lower_above q) q q (suc q) b fb (lowered_own q) ∙ unused_order q b one.not_before in
    let na : target_of_order la q ≡ [] = moved_but (lower_above q) q q (suc q) a fa (lowered_own q)
    ∙ unused_order q a (or_right (eqb q (suc q)) _ one.not_after) in
    finish b p r a q xs ys
    (split_targets lb la j p r q (xs ++ ys) xs ys jt pt rt one.low (omega (arith, two.high, lengths q b p r a)) nb na) fb fa

of_join : (k : ℕ) (g h : Target) → (g ≡ no_target) ⊎ (h ≡ no_target) → of_order k (join_targets g h) ≡ of_order k g ++ of_order k h
unfolding of_order join_targets
of_join k no_target no_target w = refl
of_join k no_target (target r ys) w = refl
of_join k (target q xs) no_target w = sym (append-nil (cond (eqb k q) xs []))
of_join k (target q xs) (target r ys) (inl e) = let z : ◌≡◌ {A = ℕ} 0 1 = cc in absurd (let y : ⊥ = omega arith in y)
of_join k (target q xs) (target r ys) (inr e) = let z : ◌≡◌ {A = ℕ} 0 1 = cc in absurd (let y : ⊥ = omega arith in y)

pub list_join : (g h : Target) → (g ≡ no_target) ⊎ (h ≡ no_target) → order_list (join_targets g h) ≡ order_list g ++ order_list h
unfolding order_list join_targets
list_join no_target no_target w = refl
list_join no_target (target r ys) w = refl
list_join (target q xs) no_target w = refl
list_join (target q xs) (target r ys) (inl e) = let z : ◌≡◌ {A = ℕ} 0 1 = cc in absurd (let y : ⊥ = omega arith in y)
list_join (target q xs) (target r ys) (inr e) = let z : ◌≡◌ {A = ℕ} 0 1 = cc in absurd (let y : ⊥ = omega arith in y)

pub few : (g h : Target) → (g ≡ no_target) ⊎ (h ≡ no_target) → length (order_list g ++ order_list h) ≤ 1
unfolding order_list
few no_target no_target w = omega arith
few no_target (target r ys) w = omega arith
few (target q xs) no_target w = omega arith
few (target q xs) (target r ys) (inl e) = let z : ◌≡◌ {A = ℕ} 0 1 = cc in omega arith
few (target q xs) (target r ys) (inr e) = let z : ◌≡◌ {A = ℕ} 0 1 = cc in omega arith

-- Join keeps the target sequence
pub join_target : (ps b : List Part) (p r : Part) (a : List Part) → ps ≡ b ++ (p ∷ r ∷ a) → fault_5 ps ≡ none
    → bad_orders p.target r.target ≡ false
    → target_sequence (join_focus ps (here b p (r ∷ a))) ≡ target_sequence ps
unfolding join_focus join_order bad_orders
join_target ps b p r a e f o = by p.target r.target refl refl o
  where
    L : List Part
    L = b ++ (p ∷ r ∷ a)

    fits : orders_fit (length L) [] (orders L) ≡ true
    fits = subst (λ (l : List Part). orders_fit (length l) [] (orders l) ≡ true) e (fault_5_fits ps f)

    single : (p.target ≡ no_target) ⊎ (r.target ≡ no_target)
        → target_sequence (order_parts (lower_above (highest_unused (length L) (orders L))) (b ++ (join_parts p r ∷ a))) ≡ target_sequence L
    single w = one_target b p r a (λ k. of_join k p.target r.target w) (list_join p.target r.target w) (few p.target r.target w)

    back : (p.target ≡ no_target) ⊎ (r.target ≡ no_target)
        → target_sequence (order_parts (lower_above (highest_unused (length ps) (orders ps))) (b ++ (join_parts p r ∷ a))) ≡ target_sequence ps
    back w = subst
        (λ (l : List Part). target_sequence (order_parts (lower_above (highest_unused (length l) (orders l))) (b ++ (join_parts p r ∷ a)))
        ≡ target_sequence l) (sym e) (single w)

    by : (g h : Target) → p.target ≡ g → r.target ≡ h → bad_orders g h ≡ false
        → target_sequence (order_parts (join_order ps g h) (b ++ (join_parts p r ∷ a))) ≡ target_sequence ps
    by no_target no_target x y k = back (inl x)
    by no_target (target s ys) x y k = back (inl x)
    by (target q xs) no_target x y k = back (inr y)
    by (target q xs) (target s ys) x y k =
        two_targets b p r a q xs ys x (y ∙ ap (λ (z : ℕ). target z ys) (eqb-true s (suc q) (not-false _ k))) fits ∙ ap target_sequence (sym e)
