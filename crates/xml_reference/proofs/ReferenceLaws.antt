-- What stands behind & and behind &#.
use Prim.Native.Nat.{ℕ, ◌≤◌, ◌<◌}
use mathlib.Core.Path.{◌≡◌, refl}
use mathlib.Core.Bool.{false}
use mathlib.Core.List.{List, [], ◌∷◌}
use native.Mathlib.Omega.{arith}
use lib.ListN.{length, get_or, drop}
use borrow.Author.Tests.{eq-eqb, ne_eqb}
use Rattle.xml.specs.Characters.{cut, numeric, numeric_reference, entity, front_reference}

pub behind_none : (t : List ℕ) → length t < 2 → cut ≡ numeric_reference (drop 1 t)
unfolding numeric_reference
behind_none [] h = refl
behind_none (a ∷ []) h = refl
behind_none (a ∷ b ∷ t) h = absurd (let z : ⊥ = omega arith in z)

pub behind_x : (t : List ℕ) → 2 ≤ length t → get_or t 1 0 ≡ 120 → numeric 16 false 0 3 (drop 2 t) ≡ numeric_reference (drop 1 t)
unfolding numeric_reference
behind_x [] h e = absurd (let z : ⊥ = omega arith in z)
behind_x (a ∷ []) h e = absurd (let z : ⊥ = omega arith in z)
behind_x (a ∷ b ∷ t) h e = rw (eq-eqb b 120 e)

pub behind_digits : (t : List ℕ) → 2 ≤ length t → (get_or t 1 0 ≡ 120 → ⊥)
    → numeric 10 false 0 2 (drop 1 t) ≡ numeric_reference (drop 1 t)
unfolding numeric_reference
behind_digits [] h e = absurd (let z : ⊥ = omega arith in z)
behind_digits (a ∷ []) h e = absurd (let z : ⊥ = omega arith in z)
behind_digits (a ∷ b ∷ t) h e = rw (ne_eqb b 120 e)

pub no_reference : (t : List ℕ) → length t < 1 → cut ≡ front_reference t
unfolding front_reference
no_reference [] h = refl
no_reference (b ∷ t) h = absurd (let z : ⊥ = omega arith in z)

pub by_number : (t : List ℕ) → 1 ≤ length t → get_or t 0 0 ≡ 35 → numeric_reference (drop 1 t) ≡ front_reference t
unfolding front_reference
by_number [] h e = absurd (let z : ⊥ = omega arith in z)
by_number (b ∷ t) h e = rw (eq-eqb b 35 e)

pub by_name : (t : List ℕ) → 1 ≤ length t → (get_or t 0 0 ≡ 35 → ⊥) → entity t ≡ front_reference t
unfolding front_reference
by_name [] h e = absurd (let z : ⊥ = omega arith in z)
by_name (b ∷ t) h e = rw (ne_eqb b 35 e)
