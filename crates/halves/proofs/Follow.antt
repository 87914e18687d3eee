-- A search for the other half along the links of a group misses none: the other half has the same id.
use Prim.Native.Nat.{ℕ, suc, ◌+◌, ◌-◌, ◌/◌, ◌%◌, ◌≤◌, ◌<◌}
use mathlib.Core.Path.{◌≡◌, refl, sym, ap, ◌∙◌, subst}
use mathlib.Core.Bool.{Bool, true, false, true≢false}
use mathlib.Core.List.{List}
use native.Mathlib.Omega.{arith}
use borrow.Author.Tests.{eq-eqb, eqb-true}
use lib.Dec.{eqb}
use lib.ListN.{length, get_or}
use Rattle.keys.specs.Keys.{is_other_key}
use Rattle.id_links.specs.Nearest.{next, previous}
use Rattle.id_links.specs.Links.{group, in_group, Linked, LinkedAfter}
use Rattle.id_links.proofs.Scans.{previous_past, next_past, previous_passes, next_passes, previous_high, previous_miss, next_low, next_miss}
use Rattle.halves.specs.Nearest.{others, half_before, half_after}

same_id : (x y : ℕ) → x / 8 ≡ y / 8 → x / 64 ≡ y / 64
same_id x y e = omega (arith, e)

-- what is in another group is no other half
other_group : (x y : ℕ) → eqb (group y) (group x) ≡ false → is_other_key x y ≡ false
other_group x y h = by (eqb (x / 8) (y / 8)) refl
  where
    by : (b : Bool) → eqb (x / 8) (y / 8) ≡ b → is_other_key x y ≡ false
    by true e = absurd (true≢false (sym (eq-eqb (group y) (group x) (ap (λ (k : ℕ). k % 256) (sym (same_id x y (eqb-true (x / 8) (y / 8) e))))) ∙ h))
    by false e = rw e

-- j is where a search before i has come to: the index, plus one, of a key of the group of i; 0 where none is left
abbrev pub FollowedBefore : List ℕ → ℕ → ℕ → Type 0
FollowedBefore keys i j = (j ≤ i) × (half_before keys i ≡ previous (others keys i) j) × (0 < j → in_group keys (group (get_or keys i 0)) (j - 1) ≡ true)

-- and a search after i: the index of a key of the group of i; the number of keys where none is left
abbrev pub FollowedAfter : List ℕ → ℕ → ℕ → Type 0
FollowedAfter keys i j =
    (i < j) × (j ≤ length keys) × (half_after keys i ≡ next (others keys i) j (length keys - j)) × (j < length keys → in_group keys (group (get_or keys i 0)) j ≡ true)

module _ (keys links : List ℕ) (i : ℕ) (l : i < length keys) (r : ℕ) where
  same_group : ℕ → Bool
  same_group = in_group keys (group (get_or keys i 0))

  other_in_group : (k : ℕ) → same_group k ≡ false → others keys i k ≡ false
  unfolding same_group
  other_in_group k = other_group (get_or keys i 0) (get_or keys k 0)

  -- i is of its own group
  own_group : same_group i ≡ true
  unfolding same_group
  own_group = eq-eqb (group (get_or keys i 0)) (group (get_or keys i 0)) refl

  -- a search that has passed the indices from k on goes on at the link of k
  on_before : Linked keys links → (k : ℕ) → k ≤ i → same_group k ≡ true → half_before keys i ≡ previous (others keys i) k → r ≡ get_or links k 0 → (r ≤ k) × FollowedBefore keys i r
  unfolding same_group
  on_before f k h e s g =
      let z : r ≡ previous same_group k = g ∙ f k (omega (arith, h, l)) ∙ ap (λ (x : ℕ). previous (in_group keys x) k) (eqb-true (group (get_or keys k 0)) (group (get_or keys i 0)) e) in
      subst (λ (j : ℕ). (j ≤ k) × FollowedBefore keys i j) (sym z)
      (previous_high same_group k, (omega (arith, h, previous_high same_group k), s ∙ previous_past (others keys i) same_group other_in_group k, previous_passes same_group k))

  pub before_start : Linked keys links → r ≡ get_or links i 0 → FollowedBefore keys i r
  unfolding half_before
  before_start f g = let (low, done) = on_before f i (omega arith) own_group refl g in done

  pub before_next : Linked keys links → (j : ℕ) → 0 < j → FollowedBefore keys i j → others keys i (j - 1) ≡ false → r ≡ get_or links (j - 1) 0 → (r < j) × FollowedBefore keys i r
  unfolding same_group
  before_next f j h (low, s, e) n g =
      let (less, done) = on_before f (j - 1) (omega (arith, low)) (e h) (s ∙ previous_miss (others keys i) j h n) g in (omega (arith, h, less), done)

  -- a search that has passed the indices up to k goes on at the link of k
  on_after : LinkedAfter keys links → (k : ℕ) → i ≤ k → k < length keys → same_group k ≡ true → half_after keys i ≡ next (others keys i) (suc k) (length keys - suc k)
      → r ≡ get_or links k 0 → (k < length keys - r) × FollowedAfter keys i (length keys - r)
  unfolding same_group
  on_after f k h m e s g =
      let u = next same_group (suc k) (length keys - suc k) in
      let w : get_or links k 0 + u ≡ length keys =
      ap (λ (x : ℕ). get_or links k 0 + next (in_group keys x) (suc k) (length keys - suc k)) (sym (eqb-true (group (get_or keys k 0)) (group (get_or keys i 0)) e)) ∙ f k m in
      let z : length keys - r ≡ u = omega (arith, w, g) in
      let low : suc k ≤ u = next_low same_group (suc k) (length keys - suc k) in
      let past : suc k + (length keys - suc k) ≡ length keys = omega (arith, m) in
      subst (λ (j : ℕ). (k < j) × FollowedAfter keys i j) (sym z) (
        omega (arith, low),
        (
          omega (arith, low, h),
          omega (arith, w),
          s ∙ next_past (others keys i) same_group other_in_group (suc k) (length keys - suc k) ∙ ap (λ (x : ℕ). next (others keys i) u (x - u)) past,
          λ v. next_passes same_group (suc k) (length keys - suc k) (omega (arith, v, past)),
        ),
      )

  pub after_start : LinkedAfter keys links → r ≡ get_or links i 0 → FollowedAfter keys i (length keys - r)
  unfolding half_after
  after_start f g = let (low, done) = on_after f i (omega arith) l own_group refl g in done

  pub after_next : LinkedAfter keys links → (j : ℕ) → j < length keys → FollowedAfter keys i j → others keys i j ≡ false → r ≡ get_or links j 0
      → (j < length keys - r) × FollowedAfter keys i (length keys - r)
  unfolding same_group
  after_next f j h (low, high, s, e) n g =
      on_after f j (omega (arith, low)) h (e h)
      (s ∙ next_miss (others keys i) (length keys) j h n ∙ ap (λ (x : ℕ). next (others keys i) x (length keys - x)) (let z : j + 1 ≡ suc j = omega arith in z)) g
