-- Numbers in decimal and hexadecimal are read back.
use Prim.Native.Nat.{ℕ, zero, suc, ◌+◌, ◌-◌, ◌*◌, ◌/◌, ◌%◌, ◌≤◌, ◌<◌}
use mathlib.Core.Path.{◌≡◌, refl, ap, ◌∙◌}
use mathlib.Core.Bool.{Bool, true, false, ◌&&◌, cond}
use mathlib.Core.List.{List, [], ◌∷◌, ◌++◌}
use mathlib.Core.Option.{none, some}
use native.Mathlib.Omega.{arith}
use lib.ListN.{get_or}
use lib.Dec.{eqb, leb, ltb}
use borrow.Author.Tests.{ne_eqb, le-leb, lt-leb, ltb-true, ltb-false}
use Rattle.xliff.specs.Text.{between}
use Rattle.xliff.specs.Desk.{digits, decimal, hex_digit, hex_byte}
use Rattle.xml.specs.Attributes.{with, all_digits, decimal_value, number, upper_hex, hexadecimal}
use Rattle.xml.proofs.LetterLaws.{plain}

-- the powers of ten
abbrev ten : ℕ → ℕ
ten zero = 1
ten (suc k) = 10 * ten k

-- one digit in front
plain_digit : (d : ℕ) (rest : List ℕ) → 48 ≤ d → d ≤ 57 → plain rest ≡ true → plain (d ∷ rest) ≡ true
unfolding plain
plain_digit d rest l h p = rw (le-leb 48 d l, le-leb d 122 (omega arith), ne_eqb d 60 (omega arith), p)

digits_plain : (f n : ℕ) (rest : List ℕ) → plain rest ≡ true → plain (digits f n rest) ≡ true
unfolding digits
digits_plain zero n rest p = p
digits_plain (suc f) n rest p = by (ltb n 10) (digits_plain f (n / 10) ((48 + n % 10) ∷ rest) one)
  where
    one : plain ((48 + n % 10) ∷ rest) ≡ true
    one = plain_digit (48 + n % 10) rest (omega arith) (omega arith) p

    by : (b : Bool) → plain (digits f (n / 10) ((48 + n % 10) ∷ rest)) ≡ true
        → plain (cond b ((48 + n % 10) ∷ rest) (digits f (n / 10) ((48 + n % 10) ∷ rest))) ≡ true
    by true q = one
    by false q = q

pub decimal_plain : (n : ℕ) → plain (decimal n) ≡ true
unfolding decimal plain
decimal_plain n = digits_plain 20 n [] refl

digits_all : (f n : ℕ) (rest : List ℕ) → all_digits rest ≡ true → all_digits (digits f n rest) ≡ true
unfolding digits
digits_all zero n rest p = p
digits_all (suc f) n rest p = by (ltb n 10) (digits_all f (n / 10) ((48 + n % 10) ∷ rest) one)
  where
    one : all_digits ((48 + n % 10) ∷ rest) ≡ true
    one = unfold all_digits between in rw (le-leb 48 (48 + n % 10) (omega arith), le-leb (48 + n % 10) 57 (omega arith), p)

    by : (b : Bool) → all_digits (digits f (n / 10) ((48 + n % 10) ∷ rest)) ≡ true
        → all_digits (cond b ((48 + n % 10) ∷ rest) (digits f (n / 10) ((48 + n % 10) ∷ rest))) ≡ true
    by true q = one
    by false q = q

digits_value : (f n : ℕ) (rest : List ℕ) → n < ten f → decimal_value 0 (digits f n rest) ≡ decimal_value n rest
unfolding digits decimal_value
digits_value zero n rest h = ap (λ (k : ℕ). decimal_value k rest) (let e : 0 ≡ n = omega arith in e)
digits_value (suc f) n rest h = by (ltb n 10) refl (λ k. digits_value f (n / 10) ((48 + n % 10) ∷ rest) k)
  where
    by : (b : Bool) → ltb n 10 ≡ b
        → (n / 10 < ten f
        → decimal_value 0 (digits f (n / 10) ((48 + n % 10) ∷ rest))
        ≡ decimal_value (n / 10 * 10 + (48 + n % 10 - 48)) rest)
        → decimal_value 0 (cond b ((48 + n % 10) ∷ rest) (digits f (n / 10) ((48 + n % 10) ∷ rest))) ≡ decimal_value n rest
    by true e ih =
        let k : n < 10 = ltb-true n 10 e in
        ap (λ (k : ℕ). decimal_value k rest) (let z : 0 * 10 + (48 + n % 10 - 48) ≡ n = omega arith in z)
    by false e ih =
        ih (omega arith)
        ∙ ap (λ (k : ℕ). decimal_value k rest) (let z : n / 10 * 10 + (48 + n % 10 - 48) ≡ n = omega arith in z)

digits_first : (f n : ℕ) (rest : List ℕ) → 1 ≤ n → n < ten f → eqb (get_or (digits f n rest) 0 48) 48 ≡ false
unfolding digits
digits_first zero n rest l h = absurd (let z : ⊥ = omega arith in z)
digits_first (suc f) n rest l h = by (ltb n 10) refl (λ j k. digits_first f (n / 10) ((48 + n % 10) ∷ rest) j k)
  where
    by : (b : Bool) → ltb n 10 ≡ b
        → (1 ≤ n / 10 → n / 10 < ten f → eqb (get_or (digits f (n / 10) ((48 + n % 10) ∷ rest)) 0 48) 48 ≡ false)
        → eqb (get_or (cond b ((48 + n % 10) ∷ rest) (digits f (n / 10) ((48 + n % 10) ∷ rest))) 0 48) 48 ≡ false
    by true e ih = let k : n < 10 = ltb-true n 10 e in ne_eqb (48 + n % 10) 48 (omega arith)
    by false e ih = let k : 10 ≤ n = ltb-false n 10 e in ih (omega arith) (omega arith)

pub number_decimal : (n : ℕ) → 1 ≤ n → n ≤ 65535 → number (decimal n) ≡ some n
unfolding number decimal between
number_decimal n l h =
    let v : decimal_value 0 (digits 20 n []) ≡ n = digits_value 20 n [] (omega arith) ∙ (unfold decimal_value in refl) in
    rw (digits_all 20 n [] (unfold all_digits in refl), digits_first 20 n [] l (omega arith), v, le-leb 1 n l, le-leb n 65535 h)

-- four hexadecimal digits
upper_back : (d : ℕ) → d < 16 → upper_hex (hex_digit d) ≡ some d
unfolding upper_hex hex_digit between
upper_back d h = by (ltb d 10) refl
  where
    by : (b : Bool) → ltb d 10 ≡ b
        → cond (leb 48 (cond b (48 + d) (55 + d)) && leb (cond b (48 + d) (55 + d)) 57)
        (some (cond b (48 + d) (55 + d) - 48))
        (cond (leb 65 (cond b (48 + d) (55 + d)) && leb (cond b (48 + d) (55 + d)) 70)
        (some (cond b (48 + d) (55 + d) - 55)) none) ≡ some d
    by true e =
        let k : d < 10 = ltb-true d 10 e in
        rw (le-leb 48 (48 + d) (omega arith), le-leb (48 + d) 57 (omega arith))
        (ap some (let z : 48 + d - 48 ≡ d = omega arith in z))
    by false e =
        let k : 10 ≤ d = ltb-false d 10 e in
        rw (
          le-leb 48 (55 + d) (omega arith),
          lt-leb (55 + d) 57 (omega arith),
          le-leb 65 (55 + d) (omega arith),
          le-leb (55 + d) 70 (omega arith),
        ) (ap some (let z : 55 + d - 55 ≡ d = omega arith in z))

pub hexadecimal_back : (c : ℕ) → c < 65536 → hexadecimal (hex_byte (c / 256) ++ hex_byte (c % 256)) ≡ some c
unfolding hexadecimal hex_byte with
hexadecimal_back c h =
    rw (
      upper_back (c / 256 / 16) (omega arith),
      upper_back (c / 256 % 16) (omega arith),
      upper_back (c % 256 / 16) (omega arith),
      upper_back (c % 256 % 16) (omega arith),
    )
    (ap some
    (let z : c / 256 / 16 * 4096 + c / 256 % 16 * 256 + c % 256 / 16 * 16 + c % 256 % 16 ≡ c = omega arith in
    z))

hex_plain : (d : ℕ) (rest : List ℕ) → d < 16 → plain rest ≡ true → plain (hex_digit d ∷ rest) ≡ true
unfolding hex_digit plain
hex_plain d rest h p = by (ltb d 10) refl
  where
    by : (b : Bool) → ltb d 10 ≡ b → plain (cond b (48 + d) (55 + d) ∷ rest) ≡ true
    by true e = let k : d < 10 = ltb-true d 10 e in plain_digit (48 + d) rest (omega arith) (omega arith) p
    by false e =
        let k : 10 ≤ d = ltb-false d 10 e in
        rw (le-leb 48 (55 + d) (omega arith), le-leb (55 + d) 122 (omega arith), ne_eqb (55 + d) 60 (omega arith), p)

pub hexadecimal_plain : (c : ℕ) → c < 65536 → plain (hex_byte (c / 256) ++ hex_byte (c % 256)) ≡ true
unfolding hex_byte
hexadecimal_plain c h =
    hex_plain (c / 256 / 16) _ (omega arith)
    (hex_plain (c / 256 % 16) _ (omega arith)
    (hex_plain (c % 256 / 16) _ (omega arith) (hex_plain (c % 256 % 16) [] (omega arith) (unfold plain in refl))))
