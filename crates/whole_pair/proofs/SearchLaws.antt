-- The start and the other half after it, by indices into the markers.
use Prim.Native.Nat.{ℕ, zero, suc, ◌+◌, ◌-◌, ◌≤◌, ◌<◌}
use Rattle.std.specs.Prelude.{get_or, Option as RustOption, Some, None}
use Rattle.std.specs.List.{position, position_or_len}
use mathlib.Core.Path.{◌≡◌, refl, sym, ap, ap₂, ◌∙◌}
use mathlib.Core.Bool.{Bool, true, false, not, ◌&&◌, cond, true≢false}
use mathlib.Core.List.{List, [], ◌∷◌}
use mathlib.Core.Option.{none, some}
use native.Mathlib.Omega.{arith}
use lib.ListN.{length}
use lib.Dec.{eqb, ltb}
use borrow.Author.Tests.{ltb-true, ltb-false}
use Rattle.xliff.specs.Item.{Item, is_start_half, id_of, other_half}
use Rattle.xliff.specs.Rules.{nearest, end_letter}
use Rattle.xliff.specs.Rewrite.{ended_by, find_whole, unfit_letter}
use Rattle.views.specs.Views.{items_of_markers, view_of}
use Rattle.views.specs.declared.View.{View}
use Rattle.views.proofs.ViewLaws.{items_at}
use Rattle.keys.specs.Keys.{keys_at}
use Rattle.keys.proofs.KeyLaws.{half_key_lem, id_key_lem}
use Rattle.halves.specs.Nearest.{half_after, run, marker_at}
use Rattle.id_links.specs.Nearest.{next}
use Rattle.halves.proofs.Others.{length_keys, key_at, after_is}
use Rattle.halves.proofs.Runs.{items_run}
use Rattle.whole_pair.specs.declared.WholePair.{WholePair}
use Rattle.whole_pair.specs.Pairs.{pair_of, starts}

module _ (p : Item → Bool) (x : ℕ → Item) where
  nearest_some : (n a e : ℕ) → next (λ k. p (x k)) a n ≡ e → e < a + n → nearest p (run x a n) ≡ some (x e)
  unfolding nearest run next
  nearest_some zero a e h l = absurd (omega (arith, h))
  nearest_some (suc n) a e h l = by (p (x a)) h (λ k. nearest_some n (suc a) e k (omega (arith, l)))
    where
      by : (b : Bool) → cond b a (next (λ k. p (x k)) (suc a) n) ≡ e → (next (λ k. p (x k)) (suc a) n ≡ e → nearest p (run x (suc a) n) ≡ some (x e))
          → cond b (some (x a)) (nearest p (run x (suc a) n)) ≡ some (x e)
      by true k ih = ap (λ (m : ℕ). some (x m)) k
      by false k ih = ih k

  nearest_none : (n a : ℕ) → a + n ≤ next (λ k. p (x k)) a n → nearest p (run x a n) ≡ none
  unfolding nearest run next
  nearest_none zero a h = refl
  nearest_none (suc n) a h = by (p (x a)) h (λ k. nearest_none n (suc a) k)
    where
      by : (b : Bool) → a + suc n ≤ cond b a (next (λ k. p (x k)) (suc a) n) → (suc a + n ≤ next (λ k. p (x k)) (suc a) n → nearest p (run x (suc a) n) ≡ none)
          → cond b (some (x a)) (nearest p (run x (suc a) n)) ≡ none
      by true k ih = absurd (omega (arith, k))
      by false k ih = ih (omega (arith, k))

abbrev starts_item : ℕ → Item → Bool
starts_item i y = is_start_half y && eqb (id_of y) i

module _ (i : ℕ) (x : ℕ → Item) where
  whole_from : (n a e : ℕ) → next (λ k. starts_item i (x k)) a n ≡ e → e < a + n
      → find_whole i (run x a n) ≡ ended_by (x e) (nearest (other_half (x e)) (run x (suc e) (a + n - suc e)))
  unfolding find_whole run next
  whole_from zero a e h l = absurd (omega (arith, h))
  whole_from (suc n) a e h l = by (starts_item i (x a)) h (λ k. whole_from n (suc a) e k (omega (arith, l)))
    where
      by : (b : Bool) → cond b a (next (λ k. starts_item i (x k)) (suc a) n) ≡ e
          → (next (λ k. starts_item i (x k)) (suc a) n ≡ e → find_whole i (run x (suc a) n) ≡ ended_by (x e) (nearest (other_half (x e)) (run x (suc e) (suc a + n - suc e))))
          → cond b (ended_by (x a) (nearest (other_half (x a)) (run x (suc a) n))) (find_whole i (run x (suc a) n))
          ≡ ended_by (x e) (nearest (other_half (x e)) (run x (suc e) (a + suc n - suc e)))
      by true k ih =
          ap (λ (m : ℕ). ended_by (x a) (nearest (other_half (x a)) (run x (suc a) m))) (let z : n ≡ a + suc n - suc a = omega arith in z)
          ∙ ap (λ (m : ℕ). ended_by (x m) (nearest (other_half (x m)) (run x (suc m) (a + suc n - suc m)))) k
      by false k ih = ih k ∙ ap (λ (m : ℕ). ended_by (x e) (nearest (other_half (x e)) (run x (suc e) m))) (let z : suc a + n - suc e ≡ a + suc n - suc e = omega arith in z)

  no_start : (n a : ℕ) → a + n ≤ next (λ k. starts_item i (x k)) a n → find_whole i (run x a n) ≡ none
  unfolding find_whole run next
  no_start zero a h = refl
  no_start (suc n) a h = by (starts_item i (x a)) h (λ k. no_start n (suc a) k)
    where
      by : (b : Bool) → a + suc n ≤ cond b a (next (λ k. starts_item i (x k)) (suc a) n) → (suc a + n ≤ next (λ k. starts_item i (x k)) (suc a) n → find_whole i (run x (suc a) n) ≡ none)
          → cond b (ended_by (x a) (nearest (other_half (x a)) (run x (suc a) n))) (find_whole i (run x (suc a) n)) ≡ none
      by true k ih = absurd (omega (arith, k))
      by false k ih = ih (omega (arith, k))

-- the first element that passes a test, by indices
next_position : (p f : ℕ → Bool) (xs : List ℕ) (a : ℕ) → ((k : ℕ) → k < length xs → f (a + k) ≡ p (get_or xs k 0))
    → next f a (length xs) ≡ a + position_or_len p xs
unfolding next
next_position p f [] a h = omega arith
next_position p f (x ∷ xs) a h =
    by (f a) (p x) (rw (let z : a + 0 ≡ a = omega arith in z) at (h 0 (omega arith)))
    (next_position p f xs (suc a)
    (λ k l. ap f (let z : suc a + k ≡ a + suc k = omega arith in z) ∙ h (suc k) (omega (arith, l))))
  where
    by : (b c : Bool) → b ≡ c → next f (suc a) (length xs) ≡ suc a + position_or_len p xs
        → cond b a (next f (suc a) (length xs)) ≡ a + cond (not c) (1 + position_or_len p xs) 0
    by true true e ih = omega arith
    by true false e ih = absurd (true≢false e)
    by false true e ih = absurd (true≢false (sym e))
    by false false e ih = omega (arith, ih)

-- a place within the list, or none
index_within : (i n e : ℕ) → cond (ltb i n) (Some i) None ≡ Some e → (i ≡ e) × (e < n)
index_within i n e h = by (ltb i n) refl h
  where
    by : (b : Bool) → ltb i n ≡ b → cond b (Some i) None ≡ Some e → (i ≡ e) × (e < n)
    by true l k = let z : i ≡ e = cc in (z, omega (arith, ltb-true i n l, z))
    by false l k = cc

none_within : (i n : ℕ) → cond (ltb i n) (Some i) None ≡ None → n ≤ i
none_within i n h = by (ltb i n) refl h
  where
    by : (b : Bool) → ltb i n ≡ b → cond b (Some i) None ≡ None → n ≤ i
    by true l k = cc
    by false l k = ltb-false i n l

abbrev pair_with : Bool → Bool → WholePair
pair_with a b = record { form_p = a; unfit = b }

-- the same on the keys of the markers
module _ (t markers : List ℕ) (id : ℕ) where
  all_items : items_of_markers t markers ≡ run (marker_at t markers) 0 (length markers)
  all_items = sym (items_at t markers) ∙ items_run t markers (length markers) 0 (omega arith)

  abbrev first_key : ℕ
  first_key = position_or_len (starts id) (keys_at t markers)

  by_items : next (λ k. starts_item id (marker_at t markers k)) 0 (length markers) ≡ first_key
  by_items =
      ap (next (λ k. starts_item id (marker_at t markers k)) 0) (sym (length_keys t markers))
      ∙ next_position (starts id) (λ k. starts_item id (marker_at t markers k)) (keys_at t markers) 0
      (λ k l. ap (λ (m : ℕ). starts_item id (marker_at t markers m)) (let z : 0 + k ≡ k = omega arith in z)
      ∙ sym
      (ap (starts id) (key_at t markers k (omega (arith, l, length_keys t markers)))
      ∙ ap₂ (λ (a b : ℕ). eqb a 1 && eqb b id) (half_key_lem (marker_at t markers k)) (id_key_lem (marker_at t markers k))))
      ∙ (let z : 0 + first_key ≡ first_key = omega arith in z)

  -- what was found among the keys, for the id as it was given
  pub found_by : (i : ℕ) (keys : List ℕ) (o : RustOption ℕ) → keys ≡ keys_at t markers → i ≡ id → o ≡ position (starts i) keys
      → position (starts id) (keys_at t markers) ≡ o
  found_by i keys o k j h = ap₂ (λ (a : ℕ) (b : List ℕ). position (starts a) b) (sym j) (sym k) ∙ sym h

  pub none_started : position (starts id) (keys_at t markers) ≡ None → None ≡ pair_of (find_whole id (items_of_markers t markers))
  unfolding pair_of
  none_started h =
      let l = none_within first_key (length (keys_at t markers)) h in
      ap pair_of (sym (ap (find_whole id) all_items ∙ no_start id (marker_at t markers) (length markers) 0 (omega (arith, l, length_keys t markers, by_items))))

  -- the start is at e
  pub start_within : (e : ℕ) → position (starts id) (keys_at t markers) ≡ Some e → e < length (keys_at t markers)
  start_within e h = (index_within first_key (length (keys_at t markers)) e h).1

  module _ (e : ℕ) (h : position (starts id) (keys_at t markers) ≡ Some e) (j : ℕ) (g : j ≡ half_after (keys_at t markers) e) where
    here : e < length markers
    here = omega (arith, start_within e h, length_keys t markers)

    starts_here : next (λ k. starts_item id (marker_at t markers k)) 0 (length markers) ≡ e
    starts_here = by_items ∙ (index_within first_key (length (keys_at t markers)) e h).0

    the_start : find_whole id (items_of_markers t markers) ≡ ended_by (marker_at t markers e) (nearest (other_half (marker_at t markers e)) (run (marker_at t markers) (suc e) (length markers - suc e)))
    the_start =
        ap (find_whole id) all_items ∙ whole_from id (marker_at t markers) (length markers) 0 e starts_here (omega (arith, here))
        ∙ ap (λ (m : ℕ). ended_by (marker_at t markers e) (nearest (other_half (marker_at t markers e)) (run (marker_at t markers) (suc e) m)))
        (let z : 0 + length markers - suc e ≡ length markers - suc e = omega arith in z)

    the_next : next (λ k. other_half (marker_at t markers e) (marker_at t markers k)) (suc e) (length markers - suc e) ≡ j
    the_next = sym (g ∙ after_is t markers e here)

    pub none_ended : length (keys_at t markers) ≤ j → None ≡ pair_of (find_whole id (items_of_markers t markers))
    unfolding pair_of ended_by
    none_ended k =
        ap pair_of
        (sym
        (the_start
        ∙ ap (ended_by (marker_at t markers e))
        (nearest_none (other_half (marker_at t markers e)) (marker_at t markers) (length markers - suc e) (suc e) (omega (arith, k, here, length_keys t markers, the_next)))))

    pub complete : j < length (keys_at t markers) → (v w : View) → v ≡ view_of (marker_at t markers e) → w ≡ view_of (marker_at t markers j) → (b : Bool)
        → b ≡ not (eqb w.reorder (end_letter v.reorder))
        → Some (pair_with v.pform b) ≡ pair_of (find_whole id (items_of_markers t markers))
    unfolding pair_of ended_by unfit_letter view_of
    complete k v w a c b d =
        ap₂ (λ (a b : Bool). Some (pair_with a b)) (ap (λ (z : View). z.pform) a)
        (d ∙ ap₂ (λ (y z : View). not (eqb y.reorder (end_letter z.reorder))) c a)
        ∙ ap pair_of
        (sym
        (the_start
        ∙ ap (ended_by (marker_at t markers e))
        (nearest_some (other_half (marker_at t markers e)) (marker_at t markers) (length markers - suc e) (suc e) j the_next (omega (arith, k, here, length_keys t markers)))))
