-- What stands around a marker, by the nearest indices.
use Prim.Native.Nat.{ℕ, zero, suc, ◌+◌, ◌-◌, ◌≤◌, ◌<◌}
use mathlib.Core.Path.{◌≡◌, refl, sym, ap, ap₂, ◌∙◌}
use mathlib.Core.Bool.{Bool, true, false, ◌||◌, cond}
use mathlib.Core.List.{List, [], ◌∷◌, ◌++◌}
use mathlib.Core.Option.{Option, none, some}
use native.Mathlib.Omega.{arith}
use lib.ListN.{length, drop, drop_of_length-le}
use lib.Seq.{drop-cons}
use lib.Dec.{ltb}
use borrow.Author.Tests.{lt-ltb, le-ltb}
use Rattle.xliff.specs.Bytes.{any}
use Rattle.xliff.specs.Item.{Item, Content, other_half}
use Rattle.xliff.specs.Sequences.{items}
use Rattle.xliff.specs.Rules.{nearest, enclosed, behind_item}
use Rattle.xliff.proofs.lists.Tests.{any_append, or_none, or-true}
use Rattle.places.specs.Markers.{placed_at}
use Rattle.halves.specs.Nearest.{run, earlier, marker_at}
use Rattle.id_links.specs.Nearest.{next, previous}
use Rattle.id_links.proofs.Scans.{next_low, previous_high}

-- the items of the offsets from an index on
pub items_run : (t markers : List ℕ) (n a : ℕ) → a + n ≡ length markers → items (placed_at t (drop a markers)) ≡ run (marker_at t markers) a n
unfolding items placed_at run
items_run t markers zero a h = rw (drop_of_length-le markers {i = a} (omega arith))
items_run t markers (suc n) a h =
    ap (λ (l : List ℕ). items (placed_at t l)) (drop-cons markers a 0 (omega arith))
    ∙ ap {B = Content} (λ l. marker_at t markers a ∷ l) (items_run t markers n (suc a) (omega arith))

pub earlier_on : (x : ℕ → Item) (i : ℕ) → x i ∷ earlier x i ≡ earlier x (i + 1)
unfolding earlier
earlier_on x i = ap (earlier x) (let z : suc i ≡ i + 1 = omega arith in z)

-- a run in two
pub run_split : (x : ℕ → Item) (n m a : ℕ) → run x a (n + m) ≡ run x a n ++ run x (a + n) m
unfolding run
run_split x zero m a = ap₂ (run x) (let z : a ≡ a + 0 = omega arith in z) (let z : 0 + m ≡ m = omega arith in z)
run_split x (suc n) m a =
    ap (run x a) (let z : suc n + m ≡ suc (n + m) = omega arith in z)
    ∙ ap {B = Content} (λ l. x a ∷ l)
    (run_split x n m (suc a) ∙ ap {B = Content} (λ (k : ℕ). run x (suc a) n ++ run x k m) (let z : suc a + n ≡ a + suc n = omega arith in z))

run_last : (x : ℕ → Item) (n a : ℕ) → run x a (suc n) ≡ run x a n ++ (x (a + n) ∷ [])
unfolding run
run_last x n a = ap (run x a) (let z : suc n ≡ n + 1 = omega arith in z) ∙ run_split x n 1 a

-- the element of an index, plus one
unfoldable pub found_at : (ℕ → Item) → ℕ → Option Item
found_at x zero = none
found_at x (suc j) = some (x j)

pub found_some : (x : ℕ → Item) (r j : ℕ) → r ≡ j + 1 → found_at x r ≡ some (x j)
unfolding found_at
found_some x zero j h = absurd (omega (arith, h))
found_some x (suc k) j h = ap (λ (n : ℕ). some (x n)) (let z : k ≡ j = omega (arith, h) in z)

module _ (p : Item → Bool) (x : ℕ → Item) where
  -- the nearest one before
  pub nearest_previous : (i : ℕ) → nearest p (earlier x i) ≡ found_at x (previous (λ k. p (x k)) i)
  unfolding nearest earlier previous found_at
  nearest_previous zero = refl
  nearest_previous (suc i) = by (p (x i)) (nearest_previous i)
    where
      by : (b : Bool) → nearest p (earlier x i) ≡ found_at x (previous (λ k. p (x k)) i)
          → cond b (some (x i)) (nearest p (earlier x i)) ≡ found_at x (cond b (suc i) (previous (λ k. p (x k)) i))
      by true e = refl
      by false e = e

  -- one of a run passes if the nearest one from its first index on is one of it
  pub any_next : (n m a : ℕ) → n ≤ m → any p (run x a n) ≡ ltb (next (λ k. p (x k)) a m) (a + n)
  unfolding any run next
  any_next zero m a h = sym (le-ltb (next (λ k. p (x k)) a m) (a + 0) (omega (arith, next_low (λ k. p (x k)) a m)))
  any_next (suc n) zero a h = absurd (omega arith)
  any_next (suc n) (suc m) a h = by (p (x a)) (any_next n m (suc a) (omega arith))
    where
      by : (b : Bool) → any p (run x (suc a) n) ≡ ltb (next (λ k. p (x k)) (suc a) m) (suc a + n)
          → b || any p (run x (suc a) n) ≡ ltb (cond b a (next (λ k. p (x k)) (suc a) m)) (a + suc n)
      by true e = sym (lt-ltb a (a + suc n) (omega arith))
      by false e = e ∙ ap (ltb (next (λ k. p (x k)) (suc a) m)) (let z : suc a + n ≡ a + suc n = omega arith in z)

  -- or if the nearest one before its end is one of it
  pub any_previous : (n a : ℕ) → any p (run x a n) ≡ ltb a (previous (λ k. p (x k)) (a + n))
  unfolding any run previous
  any_previous zero a = sym (le-ltb a (previous (λ k. p (x k)) (a + 0)) (omega (arith, previous_high (λ k. p (x k)) (a + 0))))
  any_previous (suc n) a =
      ap (any p) (run_last x n a)
      ∙ any_append p (run x a n) (x (a + n) ∷ [])
      ∙ by (p (x (a + n))) (any_previous n a)
      ∙ ap (λ (k : ℕ). ltb a (previous (λ k. p (x k)) k)) (let z : suc (a + n) ≡ a + suc n = omega arith in z)
    where
      by : (b : Bool) → any p (run x a n) ≡ ltb a (previous (λ k. p (x k)) (a + n))
          → any p (run x a n) || (b || false) ≡ ltb a (cond b (suc (a + n)) (previous (λ k. p (x k)) (a + n)))
      by true e = or-true (any p (run x a n)) ∙ sym (lt-ltb a (suc (a + n)) (omega arith))
      by false e = or_none (any p (run x a n)) ∙ e

-- what stands before the other half of y
module _ (y : Item) (x : ℕ → Item) where
  pub enclosed_some : (n a e : ℕ) → next (λ k. other_half y (x k)) a n ≡ e → e < a + n → enclosed y (run x a n) ≡ some (run x a (e - a))
  unfolding enclosed behind_item run next
  enclosed_some zero a e h l = absurd (omega (arith, h))
  enclosed_some (suc n) a e h l = by (other_half y (x a)) h (λ k. enclosed_some n (suc a) e k (omega (arith, l)))
    where
      by : (b : Bool) → cond b a (next (λ k. other_half y (x k)) (suc a) n) ≡ e
          → (next (λ k. other_half y (x k)) (suc a) n ≡ e → enclosed y (run x (suc a) n) ≡ some (run x (suc a) (e - suc a)))
          → cond b (some []) (behind_item (x a) (enclosed y (run x (suc a) n))) ≡ some (run x a (e - a))
      by true k ih = ap (λ (m : ℕ). some (run x a m)) (let z : 0 ≡ e - a = omega (arith, k) in z)
      by false k ih =
          ap (behind_item (x a)) (ih k)
          ∙ ap (λ (m : ℕ). some (run x a m)) (let z : suc (e - suc a) ≡ e - a = omega (arith, k, next_low (λ k. other_half y (x k)) (suc a) n) in z)

  pub enclosed_none : (n a : ℕ) → a + n ≤ next (λ k. other_half y (x k)) a n → enclosed y (run x a n) ≡ none
  unfolding enclosed behind_item run next
  enclosed_none zero a h = refl
  enclosed_none (suc n) a h = by (other_half y (x a)) h (λ k. enclosed_none n (suc a) k)
    where
      by : (b : Bool) → a + suc n ≤ cond b a (next (λ k. other_half y (x k)) (suc a) n)
          → (suc a + n ≤ next (λ k. other_half y (x k)) (suc a) n → enclosed y (run x (suc a) n) ≡ none)
          → cond b (some []) (behind_item (x a) (enclosed y (run x (suc a) n))) ≡ none
      by true k ih = absurd (omega (arith, k))
      by false k ih = ap (behind_item (x a)) (ih (omega (arith, k)))
