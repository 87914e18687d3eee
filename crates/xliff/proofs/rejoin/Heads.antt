-- What a split does to heads and orders, its join undoes.
use Prim.Native.Nat.{ℕ, suc, ◌-◌, ◌<◌}
use native.Mathlib.Omega.{arith}
use mathlib.Core.Path.{◌≡◌, refl, sym, ap, ap₂, ◌∙◌}
use mathlib.Core.Bool.{Bool, true, false, ◌&&◌, cond, true≢false}
use mathlib.Core.List.{List, [], ◌∷◌, ◌++◌}
use lib.Dec.{eqb, ltb}
use borrow.Author.Tests.{eq-eqb, ltb-true, lt-ltb}
use Rattle.xliff.specs.Bytes.{'-', 'N', 'Y', gather, among}
use Rattle.xliff.specs.Unit.{Head, segment, ignorable, Target, no_target, target, Part, with_id, resolved, order_list, orders}
use Rattle.xliff.specs.Focus.{order_target, order_part, order_parts}
use Rattle.xliff.specs.Split.{first_target, second_target, raise_above, split_order}
use Rattle.xliff.specs.Join.{dash, join_heads, highest_unused, lower_above, bad_orders}
use Rattle.xliff.specs.Good.{each_nil, each_cons, GoodHead}
use Rattle.xliff.proofs.lists.Each.{each_among}
use Rattle.xliff.proofs.operations.JoinStates.{same_state}
use Rattle.xliff.proofs.lists.Tests.{or_left, or_right, map_stays, map_map}

-- THE HEAD: both halves have the state of the part, and its canResegment, Y or - in a part that is not closed
open_letter : (c d : ℕ) → among d ('Y' ∷ 'N' ∷ '-' ∷ []) ≡ true → eqb (cond (eqb d '-') c d) 'N' ≡ false
    → dash (eqb d '-' && eqb d '-') ≡ d
unfolding dash
open_letter c d good =
    each_among (λ x. eqb (cond (eqb x '-') c x) 'N' ≡ false → dash (eqb x '-' && eqb x '-') ≡ x) ('Y' ∷ 'N' ∷ '-' ∷ [])
    (each_cons {x = 'Y'} (λ o. refl) (each_cons {x = 'N'} (λ o. absurd (true≢false o))
    (each_cons {x = '-'} (λ o. refl) each_nil))) d good

pub head_back : (c new : ℕ) (h : Head) → GoodHead h → eqb (resolved c h) 'N' ≡ false → join_heads h (with_id new h) ≡ h
unfolding join_heads with_id resolved
head_back c new (ignorable i) g o = refl
head_back c new (segment f) g o =
    ap₂ (λ (d s : ℕ). segment (record { id = f.id; can_resegment = d; state = s }))
    (open_letter c f.can_resegment g.0 o) (same_state f.state g.1)

-- THE ORDERS of the two halves follow each other
pub halves_follow : (n : ℕ) (g : Target) → bad_orders (first_target n g) (second_target n g) ≡ false
unfolding bad_orders first_target second_target
halves_follow n no_target = refl
halves_follow n (target q xs) = rw (eq-eqb (suc q) (suc q) refl)

-- those of the other parts rise, and fall back
raise_lower : (q r : ℕ) → lower_above q (raise_above q r) ≡ r
unfolding lower_above raise_above
raise_lower q r = by (ltb q r) refl
  where
    by : (b : Bool) → ltb q r ≡ b → cond (ltb q (cond b (suc r) r)) (cond b (suc r) r - 1) (cond b (suc r) r) ≡ r
    by true e =
        let h : q < r = ltb-true q r e in
        rw (lt-ltb q (suc r) (let l : q < suc r = omega arith in l)) (omega arith)
    by false e = rw e

-- Orders that stay, and orders changed and changed back, part by part
own_target : (p : Part) (t : Target) → t ≡ p.target
    → ◌≡◌ {A = Part} (record { head = p.head; source = p.source; target = t }) p
own_target p t e = ap (λ (g : Target). record { head = p.head; source = p.source; target = g }) e

orders_stay : (f : ℕ → ℕ) → ((t : Target) → order_target f t ≡ t) → (l : List Part) → order_parts f l ≡ l
unfolding order_parts order_part
orders_stay f same l = map_stays (order_part f) (λ p. own_target p (order_target f p.target) (same p.target)) l

orders_back : (f g : ℕ → ℕ) → ((t : Target) → order_target g (order_target f t) ≡ t) → (l : List Part)
    → order_parts g (order_parts f l) ≡ l
unfolding order_parts order_part
orders_back f g back l =
    map_map (order_part g) (order_part f) l
    ∙ map_stays (λ p. order_part g (order_part f p))
    (λ p. own_target p (order_target g (order_target f p.target)) (back p.target)) l

pub fall_back : (q : ℕ) (l : List Part) → order_parts (lower_above q) (order_parts (raise_above q) l) ≡ l
unfolding order_target
fall_back q l = orders_back (raise_above q) (lower_above q) by l
  where
    by : (t : Target) → order_target (lower_above q) (order_target (raise_above q) t) ≡ t
    by no_target = refl
    by (target r xs) = ap (λ (z : ℕ). target z xs) (raise_lower q r)

-- A PART WITHOUT TARGET: its split leaves all orders. Then the highest value is unused, and none is above it
pub unmoved : (l : List Part) → order_parts (split_order no_target) l ≡ l
unfolding order_target split_order
unmoved l = orders_stay (split_order no_target) by l
  where
    by : (t : Target) → order_target (split_order no_target) t ≡ t
    by no_target = refl
    by (target q xs) = refl

pub top_unused : (n : ℕ) (used : List ℕ) → among (suc n) used ≡ false → highest_unused (suc n) used ≡ suc n
unfolding highest_unused
top_unused n used e = rw e

pub stay_low : (h : ℕ) (l : List Part) → ((k : ℕ) → h < k → among k (orders l) ≡ false)
    → order_parts (lower_above h) l ≡ l
unfolding order_parts order_part order_target orders order_list gather lower_above among
stay_low h [] low = refl
stay_low h (p ∷ l) low =
    ap₂ {C = List Part} ◌∷◌ (own_target p (order_target (lower_above h) p.target) (by p.target low))
    (stay_low h l (λ k u. rest p.target k (low k u)))
  where
    rest : (t : Target) (k : ℕ) → among k (order_list t ++ orders l) ≡ false → among k (orders l) ≡ false
    rest no_target k e = e
    rest (target o xs) k e = or_right (eqb k o) _ e

    by : (t : Target) → ((k : ℕ) → h < k → among k (order_list t ++ orders l) ≡ false)
        → order_target (lower_above h) t ≡ t
    by no_target w = refl
    by (target o xs) w = ap (λ (z : ℕ). target z xs) (pick (ltb h o) refl)
      where
        pick : (b : Bool) → ltb h o ≡ b → cond b (o - 1) o ≡ o
        pick true e = absurd (true≢false (sym (eq-eqb o o refl) ∙ or_left (eqb o o) _ (w o (ltb-true h o e))))
        pick false e = refl
