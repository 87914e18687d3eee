-- Which of the four forms a code point has, and the indexes of a form's bytes.
use Prim.Native.Nat.{ℕ, suc, ◌+◌, ◌<◌, ◌≤◌}
use mathlib.Core.Path.{◌≡◌, refl}
use native.Mathlib.Omega.{arith}
use borrow.Author.Tests.{lt-ltb, le-ltb}
use Rattle.xliff.specs.Text.{utf8, utf8_1, utf8_2, utf8_3, utf8_4}

pub one_byte : (c : ℕ) → c < 0x80 → utf8 c ≡ utf8_1 c
unfolding utf8
one_byte c h = rw (lt-ltb c 0x80 h) refl

pub two_bytes : (c : ℕ) → 0x80 ≤ c → c < 0x800 → utf8 c ≡ utf8_2 c
unfolding utf8
two_bytes c k h = rw (le-ltb c 0x80 k, lt-ltb c 0x800 h) refl

pub three_bytes : (c : ℕ) → 0x800 ≤ c → c < 0x10000 → utf8 c ≡ utf8_3 c
unfolding utf8
three_bytes c k h = rw (le-ltb c 0x80 (omega arith), le-ltb c 0x800 k, lt-ltb c 0x10000 h) refl

pub four_bytes : (c : ℕ) → 0x10000 ≤ c → utf8 c ≡ utf8_4 c
unfolding utf8
four_bytes c k = rw (le-ltb c 0x80 (omega arith), le-ltb c 0x800 (omega arith), le-ltb c 0x10000 k) refl

pub two_more : (n : ℕ) → n + 2 ≡ suc (suc n)
two_more n = omega arith

pub three_more : (n : ℕ) → n + 3 ≡ suc (suc (suc n))
three_more n = omega arith
