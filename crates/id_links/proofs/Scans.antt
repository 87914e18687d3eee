-- The scans for the nearest index that passes a test, one step each.
use Prim.Native.Nat.{ℕ, zero, suc, ◌+◌, ◌-◌, ◌≤◌, ◌<◌}
use mathlib.Core.Path.{◌≡◌, refl, ap, ◌∙◌, subst}
use mathlib.Core.Bool.{Bool, true, false, cond}
use native.Mathlib.Omega.{arith}
use Rattle.id_links.specs.Nearest.{next, previous}

module _ (p : ℕ → Bool) (m j : ℕ) where
  pub next_hit : j < m → p j ≡ true → next p j (m - j) ≡ j
  unfolding next
  next_hit h e = ap (next p j) (let z : m - j ≡ suc (m - suc j) = omega arith in z) ∙ rw e

  pub next_miss : j < m → p j ≡ false → next p j (m - j) ≡ next p (j + 1) (m - (j + 1))
  unfolding next
  next_miss h e =
      ap (next p j) (let z : m - j ≡ suc (m - suc j) = omega arith in z)
      ∙ rw e (ap (λ (k : ℕ). next p k (m - k)) (let z : suc j ≡ j + 1 = omega arith in z))

  pub next_end : m ≤ j → next p j (m - j) ≡ j
  unfolding next
  next_end h = ap (next p j) (let z : m - j ≡ 0 = omega arith in z)

module _ (p : ℕ → Bool) where
  pub previous_hit : (j : ℕ) → 0 < j → p (j - 1) ≡ true → previous p j ≡ j
  unfolding previous
  previous_hit zero h e = absurd (omega arith)
  previous_hit (suc j) h e = let z : p j ≡ true = subst (λ (k : ℕ). p k ≡ true) (let w : suc j - 1 ≡ j = omega arith in w) e in rw z

  pub previous_miss : (j : ℕ) → 0 < j → p (j - 1) ≡ false → previous p j ≡ previous p (j - 1)
  unfolding previous
  previous_miss zero h e = absurd (omega arith)
  previous_miss (suc j) h e =
      let z : p j ≡ false = subst (λ (k : ℕ). p k ≡ false) (let w : suc j - 1 ≡ j = omega arith in w) e in
      rw z (ap (previous p) (let w : j ≡ suc j - 1 = omega arith in w))

  pub previous_none : previous p 0 ≡ 0
  unfolding previous
  previous_none = refl

  pub previous_high : (j : ℕ) → previous p j ≤ j
  unfolding previous
  previous_high zero = omega arith
  previous_high (suc j) = by (p j) (previous_high j)
    where
      by : (b : Bool) → previous p j ≤ j → cond b (suc j) (previous p j) ≤ suc j
      by true h = omega arith
      by false h = omega (arith, h)

  pub next_low : (a n : ℕ) → a ≤ next p a n
  unfolding next
  next_low a zero = omega arith
  next_low a (suc n) = by (p a) (next_low (suc a) n)
    where
      by : (b : Bool) → suc a ≤ next p (suc a) n → a ≤ cond b a (next p (suc a) n)
      by true h = omega arith
      by false h = omega (arith, h)

  pub next_high : (a n : ℕ) → next p a n ≤ a + n
  unfolding next
  next_high a zero = omega arith
  next_high a (suc n) = by (p a) (next_high (suc a) n)
    where
      by : (b : Bool) → next p (suc a) n ≤ suc a + n → cond b a (next p (suc a) n) ≤ a + suc n
      by true h = omega arith
      by false h = omega (arith, h)

-- tests that agree where they are asked find the same index
module _ (p q : ℕ → Bool) where
  pub next_same : (a n : ℕ) → ((k : ℕ) → a ≤ k → k < a + n → p k ≡ q k) → next p a n ≡ next q a n
  unfolding next
  next_same a zero h = refl
  next_same a (suc n) h = by (p a) (q a) (h a (omega arith) (omega arith)) (next_same (suc a) n (λ k g l. h k (omega (arith, g)) (omega (arith, l))))
    where
      by : (b c : Bool) → b ≡ c → next p (suc a) n ≡ next q (suc a) n → cond b a (next p (suc a) n) ≡ cond c a (next q (suc a) n)
      by b c e ih = rw (e, ih)

  pub previous_same : (i : ℕ) → ((k : ℕ) → k < i → p k ≡ q k) → previous p i ≡ previous q i
  unfolding previous
  previous_same zero h = refl
  previous_same (suc i) h = by (p i) (q i) (h i (omega arith)) (previous_same i (λ k l. h k (omega (arith, l))))
    where
      by : (b c : Bool) → b ≡ c → previous p i ≡ previous q i → cond b (suc i) (previous p i) ≡ cond c (suc i) (previous q i)
      by b c e ih = rw (e, ih)

-- a test that nothing passes
pub previous_never : (p : ℕ → Bool) → ((k : ℕ) → p k ≡ false) → (i : ℕ) → previous p i ≡ 0
unfolding previous
previous_never p h zero = refl
previous_never p h (suc i) = rw (h i) (previous_never p h i)

pub next_never : (p : ℕ → Bool) → ((k : ℕ) → p k ≡ false) → (a n : ℕ) → next p a n ≡ a + n
unfolding next
next_never p h a zero = omega arith
next_never p h a (suc n) = rw (h a) (next_never p h (suc a) n ∙ (let z : suc a + n ≡ a + suc n = omega arith in z))

-- the index found passes
pub previous_passes : (p : ℕ → Bool) (i : ℕ) → 0 < previous p i → p (previous p i - 1) ≡ true
unfolding previous
previous_passes p zero h = absurd (omega (arith, h))
previous_passes p (suc i) h = by (p i) refl h (previous_passes p i)
  where
    by : (b : Bool) → p i ≡ b → 0 < cond b (suc i) (previous p i) → (0 < previous p i → p (previous p i - 1) ≡ true) → p (cond b (suc i) (previous p i) - 1) ≡ true
    by true e l ih = ap p (let z : suc i - 1 ≡ i = omega arith in z) ∙ e
    by false e l ih = ih l

pub next_passes : (p : ℕ → Bool) (a n : ℕ) → next p a n < a + n → p (next p a n) ≡ true
unfolding next
next_passes p a zero h = absurd (omega (arith, h))
next_passes p a (suc n) h = by (p a) refl h (λ l. next_passes p (suc a) n l)
  where
    by : (b : Bool) → p a ≡ b → cond b a (next p (suc a) n) < a + suc n → (next p (suc a) n < suc a + n → p (next p (suc a) n) ≡ true) → p (cond b a (next p (suc a) n)) ≡ true
    by true e l ih = e
    by false e l ih = ih (omega (arith, l))

-- a search may pass over what fails a wider test
module _ (p q : ℕ → Bool) (wider : (k : ℕ) → q k ≡ false → p k ≡ false) where
  pub previous_past : (i : ℕ) → previous p i ≡ previous p (previous q i)
  unfolding previous
  previous_past zero = refl
  previous_past (suc i) = by (q i) refl (previous_past i)
    where
      by : (b : Bool) → q i ≡ b → previous p i ≡ previous p (previous q i) → previous p (suc i) ≡ previous p (cond b (suc i) (previous q i))
      by true e ih = refl
      by false e ih = rw (wider i e) ih

  pub next_past : (a n : ℕ) → next p a n ≡ next p (next q a n) (a + n - next q a n)
  unfolding next
  next_past a zero = ap (next p a) (let z : 0 ≡ a + 0 - a = omega arith in z)
  next_past a (suc n) = by (q a) refl (next_past (suc a) n)
    where
      by : (b : Bool) → q a ≡ b → next p (suc a) n ≡ next p (next q (suc a) n) (suc a + n - next q (suc a) n)
          → next p a (suc n) ≡ next p (cond b a (next q (suc a) n)) (a + suc n - cond b a (next q (suc a) n))
      by true e ih = ap (next p a) (let z : suc n ≡ a + suc n - a = omega arith in z)
      by false e ih = rw (wider a e) (ih ∙ ap (next p (next q (suc a) n)) (let z : suc a + n - next q (suc a) n ≡ a + suc n - next q (suc a) n = omega arith in z))
