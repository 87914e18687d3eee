-- The digits of a numeric reference, one by one.
use Prim.Native.Nat.{ℕ, suc, min, ◌+◌, ◌*◌, ◌-◌, ◌≤◌, ◌<◌}
use mathlib.Core.Path.{◌≡◌, refl, ap, ◌∙◌}
use mathlib.Core.Bool.{Bool, true, false, ◌&&◌, cond}
use mathlib.Core.List.{List}
use mathlib.Core.Option.{Option, none, some}
use native.Mathlib.Omega.{arith}
use lib.ListN.{length, get_or, drop, drop_of_length-le}
use lib.Seq.{drop-cons}
use lib.Dec.{eqb, leb}
use borrow.Author.Tests.{leb-true, leb-false}
use Rattle.std.proofs.lemmas.Bool.Decides.{nat_tests}
use Rattle.xliff.specs.Text.{between}
use Rattle.xliff.proofs.lists.Tests.{and_right, and_false, and-true}
use Rattle.text.specs.Utf8.{xml_char}
use Rattle.text.proofs.TextLaws.{xml_same}
use Rattle.xml.specs.Characters.{found, cut, wrong, digit_value, numeric}
use Rattle.xml.proofs.BoundLaws.{large_decimal, large_hexadecimal}
use Rattle.xml_reference.specs.References.{base_of, capped, numeric_end}

pub small : (base b d : ℕ) → digit_value base b ≡ some d → d < 16
unfolding digit_value between
small base b d e =
    by (leb 48 b && leb b 57) refl (eqb base 16 && (leb 65 b && leb b 70)) refl (eqb base 16 && (leb 97 b && leb b 102))
    refl e
  where
    by : (x : Bool) → leb 48 b && leb b 57 ≡ x → (y : Bool) → eqb base 16 && (leb 65 b && leb b 70) ≡ y → (z : Bool)
        → eqb base 16 && (leb 97 b && leb b 102) ≡ z
        → ◌≡◌ {A = Option ℕ} (cond x (some (b - 48)) (cond y (some (b - 55)) (cond z (some (b - 87)) none))) (some d)
        → d < 16
    by true p y q z r e = let k = leb-true b 57 (and_right (leb 48 b) _ p) in let g : b - 48 ≡ d = cc in omega arith
    by false p true q z r e =
        let k = leb-true b 70 (and_right (leb 65 b) _ (and_right (eqb base 16) _ q)) in
        let g : b - 55 ≡ d = cc in
        omega arith
    by false p false q true r e =
        let k = leb-true b 102 (and_right (leb 97 b) _ (and_right (eqb base 16) _ r)) in
        let g : b - 87 ≡ d = cc in
        omega arith
    by false p false q false r e = absurd (let z : ◌≡◌ {A = ℕ} 0 1 = cc in omega arith)

-- a digit's value, range by range
pub digit_is : (hex : Bool) (b : ℕ)
    → digit_value (base_of hex) b
    ≡ cond (leb 48 b && leb b 57) (some (b - 48))
    (cond (hex && (leb 65 b && leb b 70)) (some (b - 55)) (cond (hex && (leb 97 b && leb b 102)) (some (b - 87)) none))
unfolding digit_value between
digit_is true b = refl
digit_is false b = refl

-- behind digits, and where there were none
pub end_some : (b v size : ℕ) → numeric_end b true v size ≡ cond (eqb b 59 && xml_char v) (found v size) wrong
unfolding numeric_end
end_some b v size = rw (xml_same v, and-true (eqb b 59))

pub end_none : (b v size : ℕ) → wrong ≡ numeric_end b false v size
unfolding numeric_end
end_none b v size = rw (and_false (eqb b 59)) refl

pub capped_is : (v : ℕ) → min v 0x110000 ≡ capped v
unfolding capped
capped_is v = grind (arith, nat_tests)

cap : (hex any : Bool) (v size : ℕ) (s : List ℕ)
    → numeric (base_of hex) any v size s ≡ numeric (base_of hex) any (capped v) size s
unfolding capped
cap hex any v size s = by hex (leb v 0x10FFFF) refl
  where
    by : (hex x : Bool) → leb v 0x10FFFF ≡ x
        → numeric (base_of hex) any v size s ≡ numeric (base_of hex) any (cond x v 0x110000) size s
    by hex true e = refl
    by true false e = let k = leb-false v 0x10FFFF e in large_hexadecimal any v 0x110000 size s (omega arith) (omega arith)
    by false false e = let k = leb-false v 0x10FFFF e in large_decimal any v 0x110000 size s (omega arith) (omega arith)

module _ (hex any : Bool) (v i : ℕ) (t : List ℕ) where
  pub digit_on : i < length t → (d : ℕ) → digit_value (base_of hex) (get_or t i 0) ≡ some d
      → numeric (base_of hex) any v (i + 1) (drop i t)
      ≡ numeric (base_of hex) true (capped (v * base_of hex + d)) (i + 1 + 1) (drop (i + 1) t)
  unfolding numeric
  digit_on h d e =
      ap (numeric (base_of hex) any v (i + 1)) (drop-cons t i 0 h)
      ∙ rw (e, numeric)
      (ap (λ (n : ℕ). numeric (base_of hex) true w n (drop (suc i) t)) (let e : suc (i + 1) ≡ i + 1 + 1 = omega arith in e))
      ∙ cap hex true w (i + 1 + 1) (drop (suc i) t)
      ∙ ap (λ (n : ℕ). numeric (base_of hex) true (capped w) (i + 1 + 1) (drop n t))
      (let e : suc i ≡ i + 1 = omega arith in e)
    where
      w : ℕ
      w = v * base_of hex + d

  pub digit_off : i < length t → digit_value (base_of hex) (get_or t i 0) ≡ none
      → numeric (base_of hex) any v (i + 1) (drop i t) ≡ numeric_end (get_or t i 0) any v (i + 1)
  unfolding numeric numeric_end
  digit_off h e = ap (numeric (base_of hex) any v (i + 1)) (drop-cons t i 0 h) ∙ rw (e, numeric)

  pub digits_end : length t ≤ i → numeric (base_of hex) any v (i + 1) (drop i t) ≡ cut
  unfolding numeric
  digits_end h = rw (drop_of_length-le t {i = i} h, numeric)
