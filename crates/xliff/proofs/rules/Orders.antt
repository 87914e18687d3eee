-- Laws of the orders: rule 5 as a statement of the list of orders, and the target sequence of a split.
use Prim.Native.Nat.{ℕ, zero, suc, ◌+◌, ◌-◌, ◌<◌, ◌≤◌}
use mathlib.Core.Path.{◌≡◌, refl, sym, ap, ap₂, ◌∙◌}
use mathlib.Core.Bool.{Bool, true, false, not, ◌&&◌, ◌||◌, cond, true≢false}
use mathlib.Core.List.{List, [], ◌∷◌, ◌++◌, append_assoc, append-nil}
use mathlib.Core.Option.{none}
use native.Mathlib.Omega.{arith}
use lib.ListN.{length, length-append, length-map}
use lib.Dec.{eqb, ltb}
use borrow.Author.Tests.{eqb-true, eqb-false, eq-eqb, ne_eqb, ltb-true, ltb-false, not-true}
use Rattle.xliff.specs.Bytes.{gather, among}
use Rattle.xliff.specs.Answer.{refusal}
use Rattle.xliff.specs.Item.{Content}
use Rattle.xliff.specs.Unit.{Target, no_target, target, Part, of_order, target_of_order, targets, target_sequence, order_list, orders}
use Rattle.xliff.specs.Sequences.{located_from, part_size, order_at}
use Rattle.xliff.specs.Rules.{bad_order, first_bad_order}
use Rattle.xliff.specs.Focus.{order_target, order_part, order_parts}
use Rattle.xliff.specs.Split.{raise_above}
use Rattle.xliff.proofs.lists.Tests.{none_some, gather_append, or_left, or_right, and_left, and_right, or_both}

-- rule 5 without offsets
unfoldable pub orders_fit : ℕ → List ℕ → List ℕ → Bool
orders_fit n used [] = true
orders_fit n used (q ∷ qs) = not (bad_order n used q) && orders_fit n (q ∷ used) qs

pub rule_5 : (n at : ℕ) (used : List ℕ) (ps : List Part) → first_bad_order n used (located_from at ps) ≡ none → orders_fit n used (orders ps) ≡ true
unfolding first_bad_order located_from orders order_list gather orders_fit
rule_5 n at used [] e = refl
rule_5 n at used (p ∷ ps) e = by p.target refl (λ used'. rule_5 n (at + part_size p) used' ps)
  where
    IH : Type 0
    IH = (used' : List ℕ) → first_bad_order n used' (located_from (at + part_size p) ps) ≡ none → orders_fit n used' (orders ps) ≡ true

    more : (q : ℕ) (xs : Content) → p.target ≡ target q xs → (b : Bool) → bad_order n used q ≡ b
        → cond b (refusal 5 (order_at (record { part = p; at = at }))) (first_bad_order n (q ∷ used) (located_from (at + part_size p) ps)) ≡ none
        → IH → not b && orders_fit n (q ∷ used) (orders ps) ≡ true
    more q xs g true h k ih = absurd (none_some (sym k))
    more q xs g false h k ih = ih (q ∷ used) k

    by : (g : Target) → p.target ≡ g → IH → orders_fit n used (order_list g ++ orders ps) ≡ true
    by no_target g ih = ih used (rw (g, first_bad_order) at e)
    by (target q xs) g ih = more q xs g (bad_order n used q) refl (rw (g, first_bad_order) at e) ih

-- what not-true, taken apart at one order
pub record OrderFits (n : ℕ) (used qs : List ℕ) (q : ℕ) (rs : List ℕ) : Type 0 where
  pub low : 1 ≤ q
  pub high : q ≤ n
  pub not_used : among q used ≡ false
  pub not_before : among q qs ≡ false
  pub not_after : among q rs ≡ false

-- an order that is used does not come again
not_again : (n q : ℕ) (used qs : List ℕ) → among q used ≡ true → orders_fit n used qs ≡ true → among q qs ≡ false
unfolding orders_fit among bad_order
not_again n q used [] u e = refl
not_again n q used (r ∷ qs) u e =
    or_both (eqb q r) (among q qs) (by (eqb q r) refl)
    (not_again n q (r ∷ used) qs (or-true (eqb q r) (among q used) u) (and_right (not (bad_order n used r)) _ e))
  where
    or-true : (a b : Bool) → b ≡ true → a || b ≡ true
    or-true true b p = refl
    or-true false b p = p

    by : (b : Bool) → eqb q r ≡ b → b ≡ false
    by true k =
        let f : bad_order n used r ≡ false = not-true (bad_order n used r) (and_left _ _ e) in
        let g : among r used ≡ false = or_right (ltb n r) _ (or_right (eqb r 0) _ f) in
        absurd (true≢false (sym u ∙ ap (λ (z : ℕ). among z used) (eqb-true q r k) ∙ g))
    by false k = refl

pub order_fits : (n : ℕ) (used qs : List ℕ) (q : ℕ) (rs : List ℕ) → orders_fit n used (qs ++ (q ∷ rs)) ≡ true → OrderFits n used qs q rs
unfolding orders_fit among bad_order
order_fits n used [] q rs e =
    let f : bad_order n used q ≡ false = not-true (bad_order n used q) (and_left _ _ e) in
    let z : eqb q 0 ≡ false = or_left (eqb q 0) (ltb n q || among q used) f in
    let h : ltb n q || among q used ≡ false = or_right (eqb q 0) _ f in
    record {
      low = omega (arith, eqb-false q 0 z);
      high = ltb-false n q (or_left _ _ h);
      not_used = or_right (ltb n q) _ h;
      not_before = refl;
      not_after = not_again n q (q ∷ used) rs (here_first (eq-eqb q q refl)) (and_right (not (bad_order n used q)) _ e);
    }
  where
    here_first : eqb q q ≡ true → eqb q q || among q used ≡ true
    here_first p = rw p
order_fits n used (r ∷ qs) q rs e =
    let o = order_fits n (r ∷ used) qs q rs (and_right (not (bad_order n used r)) _ e) in
    record {
      low = o.low;
      high = o.high;
      not_used = or_right (eqb q r) _ o.not_used;
      not_before = or_both (eqb q r) (among q qs) (or_left _ (among q used) o.not_used) o.not_before;
      not_after = o.not_after;
    }

-- a target of an order that is not among the orders is empty
pub unused_order : (q : ℕ) (ps : List Part) → among q (orders ps) ≡ false → target_of_order ps q ≡ []
unfolding orders order_list target_of_order gather among of_order
unused_order q [] e = refl
unused_order q (p ∷ ps) e = by p.target refl e (unused_order q ps)
  where
    by : (g : Target) → p.target ≡ g → among q (order_list g ++ orders ps) ≡ false → (among q (orders ps) ≡ false → target_of_order ps q ≡ [])
        → of_order q g ++ target_of_order ps q ≡ []
    by no_target g k ih = ih k
    by (target r xs) g k ih = rw (or_left (eqb q r) (among q (orders ps)) k) (ih (or_right (eqb q r) _ k))

-- orders changed so that q is met exactly where r was
pub eqb_same : (a b c d : ℕ) → (a ≡ b → c ≡ d) → (c ≡ d → a ≡ b) → eqb a b ≡ eqb c d
eqb_same a b c d f g = by (eqb a b) (eqb c d) refl refl
  where
    by : (s t : Bool) → eqb a b ≡ s → eqb c d ≡ t → s ≡ t
    by true true p q = refl
    by true false p q = absurd (eqb-false c d q (f (eqb-true a b p)))
    by false true p q = absurd (eqb-false a b p (g (eqb-true c d q)))
    by false false p q = refl

pub moved : (f : ℕ → ℕ) (q r : ℕ) (ps : List Part) → ((o : ℕ) → (q ≡ f o → r ≡ o) × (r ≡ o → q ≡ f o)) → target_of_order (order_parts f ps) q ≡ target_of_order ps r
unfolding target_of_order order_parts order_part gather of_order order_target
moved f q r [] h = refl
moved f q r (p ∷ ps) h = ap₂ ◌++◌ (by p.target) (moved f q r ps h)
  where
    by : (g : Target) → of_order q (order_target f g) ≡ of_order r g
    by no_target = refl
    by (target o xs) = ap (λ (b : Bool). cond b xs []) (eqb_same q (f o) r o (h o).0 (h o).1)

-- targets of consecutive orders
pub targets_add : (ps : List Part) (q m n : ℕ) → targets ps q (m + n) ≡ targets ps q m ++ targets ps (q + m) n
unfolding targets
targets_add ps q zero n =
    ap (targets ps q) (let e : zero + n ≡ n = omega arith in e) ∙ ap (λ (z : ℕ). targets ps z n) (let e : q ≡ q + zero = omega arith in e)
targets_add ps q (suc m) n =
    ap (targets ps q) (let e : suc m + n ≡ suc (m + n) = omega arith in e)
    ∙ ap (λ (l : Content). target_of_order ps (suc q) ++ l)
    (targets_add ps (suc q) m n ∙ ap (λ (z : ℕ). targets ps (suc q) m ++ targets ps z n) (let e : suc q + m ≡ q + suc m = omega arith in e))
    ∙ sym (append_assoc (target_of_order ps (suc q)) (targets ps (suc q) m) (targets ps (q + suc m) n))

pub targets_same : (ps qs : List Part) (q r n : ℕ) → ((k : ℕ) → k < n → target_of_order ps (suc (q + k)) ≡ target_of_order qs (suc (r + k))) → targets ps q n ≡ targets qs r n
unfolding targets
targets_same ps qs q r zero h = refl
targets_same ps qs q r (suc n) h =
    ap₂ ◌++◌
    (ap (target_of_order ps) (let e : suc q ≡ suc (q + 0) = omega arith in e) ∙ h 0 (omega arith) ∙ ap (target_of_order qs) (let e : suc (r + 0) ≡ suc r = omega arith in e))
    (targets_same ps qs (suc q) (suc r) n λ k l.
    ap (target_of_order ps) (let e : suc (suc q + k) ≡ suc (q + suc k) = omega arith in e)
    ∙ h (suc k) (omega arith)
    ∙ ap (target_of_order qs) (let e : suc (r + suc k) ≡ suc (suc r + k) = omega arith in e))

pub target_append : (ps qs : List Part) (q : ℕ) → target_of_order (ps ++ qs) q ≡ target_of_order ps q ++ target_of_order qs q
unfolding target_of_order
target_append ps qs q = gather_append (λ p. of_order q p.target) ps qs

-- orders above q rise by 1
raised_low : (q k o : ℕ) → k ≤ q → (k ≡ raise_above q o → k ≡ o) × (k ≡ o → k ≡ raise_above q o)
unfolding raise_above
raised_low q k o l = by (ltb q o) refl
  where
    by : (b : Bool) → ltb q o ≡ b → (k ≡ cond b (suc o) o → k ≡ o) × (k ≡ o → k ≡ cond b (suc o) o)
    by true e = let h : q < o = ltb-true q o e in (λ p. absurd (let z : ⊥ = omega arith in z), λ p. absurd (let z : ⊥ = omega arith in z))
    by false e = (λ p. p, λ p. p)

raised_high : (q k o : ℕ) → q < k → (suc k ≡ raise_above q o → k ≡ o) × (k ≡ o → suc k ≡ raise_above q o)
unfolding raise_above
raised_high q k o l = by (ltb q o) refl
  where
    by : (b : Bool) → ltb q o ≡ b → (suc k ≡ cond b (suc o) o → k ≡ o) × (k ≡ o → suc k ≡ cond b (suc o) o)
    by true e = (λ p. omega arith, λ p. omega arith)
    by false e = let h : o ≤ q = ltb-false q o e in (λ p. absurd (let z : ⊥ = omega arith in z), λ p. absurd (let z : ⊥ = omega arith in z))

-- no order becomes q + 1: it would be one that none has
raised_gap : (q o : ℕ) → suc q ≡ raise_above q o → ⊥
unfolding raise_above
raised_gap q o = by (ltb q o) refl
  where
    by : (b : Bool) → ltb q o ≡ b → suc q ≡ cond b (suc o) o → ⊥
    by true e p = let h : q < o = ltb-true q o e in omega arith
    by false e p = let h : o ≤ q = ltb-false q o e in omega arith

gap : (q : ℕ) (ps : List Part) → target_of_order (order_parts (raise_above q) ps) (suc q) ≡ []
unfolding target_of_order order_parts order_part gather of_order order_target
gap q [] = refl
gap q (p ∷ ps) = by p.target (gap q ps)
  where
    by : (g : Target) → target_of_order (order_parts (raise_above q) ps) (suc q) ≡ []
        → of_order (suc q) (order_target (raise_above q) g) ++ target_of_order (order_parts (raise_above q) ps) (suc q) ≡ []
    by no_target k = k
    by (target o xs) k = rw (ne_eqb (suc q) (raise_above q o) (raised_gap q o)) k

-- The target sequence of a split: one part with a target of order q becomes two, of orders q and q + 1
module _ (b a : List Part) (p f s : Part) (q : ℕ) (xs ys zs : Content)
    (pt : p.target ≡ target q xs) (ft : f.target ≡ target q ys) (st : s.target ≡ target (suc q) zs)
    (low : 1 ≤ q) (high : q ≤ length (b ++ (p ∷ a))) (nb : target_of_order b q ≡ []) (na : target_of_order a q ≡ []) where
  abbrev old : List Part
  old = b ++ (p ∷ a)

  abbrev new : List Part
  new = order_parts (raise_above q) b ++ (f ∷ s ∷ order_parts (raise_above q) a)

  at_other : (k : ℕ) (g : Target) (o : ℕ) (us : Content) → g ≡ target o us → (k ≡ o → ⊥) → of_order k g ≡ []
  unfolding of_order
  at_other k g o us e h = rw (e, of_order, ne_eqb k o h)

  at_own : (g : Target) (o : ℕ) (us : Content) → g ≡ target o us → of_order o g ≡ us
  unfolding of_order
  at_own g o us e = rw (e, of_order, eq-eqb o o refl)

  -- the three at an order
  new_at : (k : ℕ) → target_of_order new k
      ≡ target_of_order (order_parts (raise_above q) b) k ++ (of_order k f.target ++ (of_order k s.target ++ target_of_order (order_parts (raise_above q) a) k))
  unfolding target_of_order gather
  new_at k = target_append (order_parts (raise_above q) b) (f ∷ s ∷ order_parts (raise_above q) a) k

  old_at : (k : ℕ) → target_of_order old k ≡ target_of_order b k ++ (of_order k p.target ++ target_of_order a k)
  unfolding target_of_order gather
  old_at k = target_append b (p ∷ a) k

  below : (k : ℕ) → k < q → target_of_order new k ≡ target_of_order old k
  below k l =
      new_at k
      ∙ ap₂ (λ (u v : Content). u ++ v) (moved (raise_above q) k k b (λ o. raised_low q k o (omega arith)))
      (ap₂ (λ (u v : Content). u ++ v) (at_other k f.target q ys ft (λ e. omega arith) ∙ sym (at_other k p.target q xs pt (λ e. omega arith)))
      (ap₂ (λ (u v : Content). u ++ v) (at_other k s.target (suc q) zs st (λ e. omega arith)) (moved (raise_above q) k k a (λ o. raised_low q k o (omega arith)))))
      ∙ sym (old_at k)

  above : (k : ℕ) → q < k → target_of_order new (suc k) ≡ target_of_order old k
  above k l =
      new_at (suc k)
      ∙ ap₂ (λ (u v : Content). u ++ v) (moved (raise_above q) (suc k) k b (λ o. raised_high q k o l))
      (ap₂ (λ (u v : Content). u ++ v) (at_other (suc k) f.target q ys ft (λ e. omega arith) ∙ sym (at_other k p.target q xs pt (λ e. omega arith)))
      (ap₂ (λ (u v : Content). u ++ v) (at_other (suc k) s.target (suc q) zs st (λ e. omega arith)) (moved (raise_above q) (suc k) k a (λ o. raised_high q k o l))))
      ∙ sym (old_at k)

  at_q : target_of_order old q ≡ xs
  at_q = old_at q ∙ ap₂ (λ (u v : Content). u ++ v) nb (ap₂ (λ (u v : Content). u ++ v) (at_own p.target q xs pt) na ∙ append-nil xs)

  at_first : target_of_order new q ≡ ys
  at_first =
      new_at q
      ∙ ap₂ (λ (u v : Content). u ++ v) (moved (raise_above q) q q b (λ o. raised_low q q o (omega arith)) ∙ nb)
      (ap₂ (λ (u v : Content). u ++ v) (at_own f.target q ys ft)
      (ap₂ (λ (u v : Content). u ++ v) (at_other q s.target (suc q) zs st (λ e. omega arith)) (moved (raise_above q) q q a (λ o. raised_low q q o (omega arith)) ∙ na))
      ∙ append-nil ys)

  at_second : target_of_order new (suc q) ≡ zs
  at_second =
      new_at (suc q)
      ∙ ap₂ (λ (u v : Content). u ++ v) (gap q b)
      (ap₂ (λ (u v : Content). u ++ v) (at_other (suc q) f.target q ys ft (λ e. omega arith))
      (ap₂ (λ (u v : Content). u ++ v) (at_own s.target (suc q) zs st) (gap q a) ∙ append-nil zs))

  new_length : length new ≡ suc (length old)
  unfolding order_parts
  new_length = simp (length-append, length-map) (omega arith)

  later : targets new (suc q) (length old - q) ≡ targets old q (length old - q)
  later =
      targets_same new old (suc q) q (length old - q) λ k l.
      ap (target_of_order new) (let e : suc (suc q + k) ≡ suc (suc (q + k)) = omega arith in e) ∙ above (suc (q + k)) (omega arith)

  -- the same targets in the same sequence, the one of order q in two
  pub split_targets : (u v : Content) × (target_sequence old ≡ u ++ (xs ++ v)) × (target_sequence new ≡ u ++ ((ys ++ zs) ++ v))
  unfolding target_sequence targets
  split_targets = (
    targets old 0 (q - 1),
    targets old q (length old - q),
    ap (targets old 0) (let e : length old ≡ (q - 1) + suc (length old - q) = omega arith in e)
        ∙ targets_add old 0 (q - 1) (suc (length old - q))
        ∙ ap (λ (z : ℕ). targets old 0 (q - 1) ++ targets old z (suc (length old - q))) (let e : 0 + (q - 1) ≡ q - 1 = omega arith in e)
        ∙ ap (λ (z : ℕ). targets old 0 (q - 1) ++ (target_of_order old z ++ targets old z (length old - q))) (let e : suc (q - 1) ≡ q = omega arith in e)
        ∙ ap (λ (l : Content). targets old 0 (q - 1) ++ (l ++ targets old q (length old - q))) at_q,
    ap (targets new 0) (let e : length new ≡ (q - 1) + suc (suc (length old - q)) = omega (arith, new_length) in e)
        ∙ targets_add new 0 (q - 1) (suc (suc (length old - q)))
        ∙ ap₂ (λ (l : Content) (z : ℕ). l ++ targets new z (suc (suc (length old - q))))
        (targets_same new old 0 0 (q - 1) (λ k l. below (suc (0 + k)) (omega arith))) (let e : 0 + (q - 1) ≡ q - 1 = omega arith in e)
        ∙ ap (λ (z : ℕ). targets old 0 (q - 1) ++ (target_of_order new z ++ (target_of_order new (suc z) ++ targets new (suc z) (length old - q))))
        (let e : suc (q - 1) ≡ q = omega arith in e)
        ∙ ap (λ (l : Content). targets old 0 (q - 1) ++ l)
        (ap₂ ◌++◌ at_first (ap₂ ◌++◌ at_second later) ∙ sym (append_assoc ys zs (targets old q (length old - q)))),
  )
