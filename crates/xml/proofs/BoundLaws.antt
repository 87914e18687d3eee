-- Numbers in a text have no bound, those of a program have: what is too large is told by fewer digits.
use Prim.Native.Nat.{ℕ, suc, ◌+◌, ◌-◌, ◌*◌, ◌≤◌, ◌<◌}
use mathlib.Core.Path.{◌≡◌, refl}
use mathlib.Core.Bool.{Bool, true, false, not, ◌&&◌, cond}
use mathlib.Core.List.{List, [], ◌∷◌}
use mathlib.Core.Option.{Option, none, some}
use native.Mathlib.Omega.{arith}
use lib.Dec.{eqb, leb}
use borrow.Author.Tests.{eqb-false, leb-true, lt-leb}
use Rattle.xliff.specs.Text.{between, xml_allows}
use Rattle.xliff.proofs.lists.Tests.{and_left, and_false}
use Rattle.xliff.proofs.text.Utf8.{allowed_bound}
use Rattle.xml.specs.Characters.{Front, found, wrong, semicolon, digit_value, numeric}
use Rattle.xml.specs.Attributes.{all_digits, decimal_value, number}

-- what is above 10FFFF stays there, whatever digits follow
forbidden : (v : ℕ) → 0x10FFFF < v → xml_allows v ≡ false
forbidden v h = by (xml_allows v) refl
  where
    by : (b : Bool) → xml_allows v ≡ b → b ≡ false
    by true e = absurd (let k = allowed_bound v e in let z : ⊥ = omega arith in z)
    by false e = refl

abbrev Base : ℕ → Type 0
Base base = (v d : ℕ) → 0x10FFFF < v → 0x10FFFF < v * base + d

-- what is made of a byte behind the digits
abbrev pub ended : ℕ → Bool → ℕ → ℕ → Front
ended b any v size = cond (eqb b semicolon && any && xml_allows v) (found v size) wrong

pub large : (base : ℕ) → Base base → (any : Bool) (v w size : ℕ) (s : List ℕ) → 0x10FFFF < v → 0x10FFFF < w
    → numeric base any v size s ≡ numeric base any w size s
unfolding numeric
large base k any v w size [] p q = refl
large base k any v w size (b ∷ s) p q =
    by (digit_value base b) (λ d. large base k true (v * base + d) (w * base + d) (suc size) s (k v d p) (k w d q))
  where
    by : (o : Option ℕ)
        → ((d : ℕ) → numeric base true (v * base + d) (suc size) s ≡ numeric base true (w * base + d) (suc size) s)
        → ◌≡◌ {A = Front} (elim o [ some d ↦ numeric base true (v * base + d) (suc size) s | none ↦ ended b any v size ])
        (elim o [ some d ↦ numeric base true (w * base + d) (suc size) s | none ↦ ended b any w size ])
    by none ih = rw (forbidden v p, forbidden w q, and_false (eqb b semicolon && any))
    by (some d) ih = ih d

pub large_decimal : (any : Bool) (v w size : ℕ) (s : List ℕ) → 0x10FFFF < v → 0x10FFFF < w
    → numeric 10 any v size s ≡ numeric 10 any w size s
large_decimal any v w size s p q = large 10 (λ v d h. omega arith) any v w size s p q

pub large_hexadecimal : (any : Bool) (v w size : ℕ) (s : List ℕ) → 0x10FFFF < v → 0x10FFFF < w
    → numeric 16 any v size s ≡ numeric 16 any w size s
large_hexadecimal any v w size s p q = large 16 (λ v d h. omega arith) any v w size s p q

-- a number of more than five digits is above 65535
pub grows : (n : ℕ) (v : List ℕ) → n ≤ decimal_value n v
unfolding decimal_value
grows n [] = omega arith
grows n (b ∷ v) = let h = grows (n * 10 + (b - 48)) v in omega arith

six_digits : (x b c d e f : ℕ) → 1 ≤ x → 65535 < ((((x * 10 + b) * 10 + c) * 10 + d) * 10 + e) * 10 + f
six_digits x b c d e f h = omega arith

first_digit : (a : ℕ) → 48 ≤ a → (a ≡ 48 → ⊥) → 1 ≤ 0 * 10 + (a - 48)
first_digit a p q = omega arith

above : (n m k : ℕ) → n < m → m ≤ k → n < k
above n m k p q = omega arith

too_high : (a b c d e f : ℕ) (v : List ℕ) → 48 ≤ a → (a ≡ 48 → ⊥)
    → between 1 (decimal_value 0 (a ∷ b ∷ c ∷ d ∷ e ∷ f ∷ v)) 65535 ≡ false
unfolding between decimal_value
too_high a b c d e f v p q =
    let n : ℕ = decimal_value 0 (a ∷ b ∷ c ∷ d ∷ e ∷ f ∷ v) in
    let h : 65535 < n =
    above 65535 _ n (six_digits (0 * 10 + (a - 48)) (b - 48) (c - 48) (d - 48) (e - 48) (f - 48) (first_digit a p q))
    (grows _ v) in
    rw (lt-leb n 65535 h, and_false (leb 1 n))

pub number_long : (a b c d e f : ℕ) (v : List ℕ) → number (a ∷ b ∷ c ∷ d ∷ e ∷ f ∷ v) ≡ none
unfolding number all_digits
number_long a b c d e f v = by (between 48 a 57) refl (eqb a 48) refl
  where
    by : (x : Bool) → between 48 a 57 ≡ x → (y : Bool) → eqb a 48 ≡ y
        → ◌≡◌ {A = Option ℕ}
        (cond
        (x && all_digits (b ∷ c ∷ d ∷ e ∷ f ∷ v)
        && (not y && between 1 (decimal_value 0 (a ∷ b ∷ c ∷ d ∷ e ∷ f ∷ v)) 65535))
        (some (decimal_value 0 (a ∷ b ∷ c ∷ d ∷ e ∷ f ∷ v))) none) none
    by false p y q = refl
    by true p true q = rw (and_false (all_digits (b ∷ c ∷ d ∷ e ∷ f ∷ v)))
    by true p false q =
        let k : between 1 (decimal_value 0 (a ∷ b ∷ c ∷ d ∷ e ∷ f ∷ v)) 65535 ≡ false =
        too_high a b c d e f v (unfold between in leb-true 48 a (and_left _ _ p)) (eqb-false a 48 q) in
        rw (k, and_false (all_digits (b ∷ c ∷ d ∷ e ∷ f ∷ v)))
