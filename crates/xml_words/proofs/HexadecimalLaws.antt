-- Four upper hexadecimal digits, one by one.
use Prim.Native.Nat.{ℕ, zero, suc, ◌+◌, ◌*◌, ◌-◌, ◌≤◌, ◌<◌}
use mathlib.Core.Path.{◌≡◌, refl, sym, ap, ◌∙◌}
use mathlib.Core.Bool.{Bool, true, false, ◌&&◌, ◌||◌}
use mathlib.Core.List.{List, [], ◌∷◌}
use mathlib.Core.Option.{Option, none, some}
use native.Mathlib.Numerals.{add-one}
use native.Mathlib.Omega.{arith}
use lib.ListN.{length, drop}
use lib.Dec.{eqb, leb}
use borrow.Author.Tests.{eqb-true, eqb-false}
use Rattle.xliff.specs.Text.{between}
use Rattle.xliff.proofs.lists.Tests.{or_left, or_right}
use Rattle.xml.specs.Attributes.{with, upper_hex, hexadecimal}
use Rattle.xml_values.specs.Values.{value_codes}
use Rattle.xml_slots.proofs.ValueLaws.{Within, nothing, value, digit_within}
use Rattle.xml_words.specs.Codes.{PointRead}

-- one digit
module _ (c : ℕ) where
  pub decimal_digit : between 48 c 57 ≡ true → some (c - 48) ≡ upper_hex c
  unfolding upper_hex
  decimal_digit e = rw e

  pub letter_digit : between 48 c 57 ≡ false → leb 65 c && leb c 70 ≡ true → some (c - 55) ≡ upper_hex c
  unfolding upper_hex between
  letter_digit e f = rw (e, f)

  pub no_upper_digit : between 48 c 57 ≡ false → leb 65 c && leb c 70 ≡ false → none ≡ upper_hex c
  unfolding upper_hex between
  no_upper_digit e f = rw (e, f)

digit_below : (o : Option ℕ) → Within 0 16 o → (d : ℕ) → o ≡ some d → d < 16
digit_below none nothing d e = absurd (let z : ◌≡◌ {A = ℕ} 0 1 = cc in omega arith)
digit_below (some c) (value l h) d e = let z : c ≡ d = cc in omega arith

pub digit_small : (c d : ℕ) → upper_hex c ≡ some d → d < 16
digit_small c d e = digit_below (upper_hex c) (digit_within c) d e

-- the value of what follows, with so many digits to come, where those so far give n
unfoldable pub hex_on : ℕ → ℕ → List ℕ → Option ℕ
hex_on zero n [] = some n
hex_on zero n (c ∷ v) = none
hex_on (suc k) n [] = none
hex_on (suc k) n (c ∷ v) = with (upper_hex c) (λ d. hex_on k (n * 16 + d) v)

never : (o : Option ℕ) (f : ℕ → Option ℕ) → ((d : ℕ) → f d ≡ none) → with o f ≡ none
unfolding with
never none f h = refl
never (some d) f h = h d

the_same : (o : Option ℕ) (f g : ℕ → Option ℕ) → ((d : ℕ) → f d ≡ g d) → with o f ≡ with o g
unfolding with
the_same none f g h = refl
the_same (some d) f g h = h d

four_digits : (i j k l : ℕ) → (((0 * 16 + i) * 16 + j) * 16 + k) * 16 + l ≡ i * 4096 + j * 256 + k * 16 + l
four_digits i j k l = omega arith

hex_begins : (v : List ℕ) → hex_on 4 0 v ≡ hexadecimal v
unfolding hex_on hexadecimal
hex_begins [] = refl
hex_begins (a ∷ []) = never (upper_hex a) _ (λ i. refl)
hex_begins (a ∷ b ∷ []) = never (upper_hex a) _ (λ i. never (upper_hex b) _ (λ j. refl))
hex_begins (a ∷ b ∷ c ∷ []) =
    never (upper_hex a) _ (λ i. never (upper_hex b) _ (λ j. never (upper_hex c) _ (λ k. refl)))
hex_begins (a ∷ b ∷ c ∷ d ∷ []) =
    the_same (upper_hex a) _ _ (λ i.
    the_same (upper_hex b) _ _ (λ j.
    the_same (upper_hex c) _ _ (λ k. the_same (upper_hex d) _ _ (λ l. ap some (four_digits i j k l)))))
hex_begins (a ∷ b ∷ c ∷ d ∷ e ∷ v) =
    never (upper_hex a) _ (λ i.
    never (upper_hex b) _ (λ j. never (upper_hex c) _ (λ k. never (upper_hex d) _ (λ l. refl))))

-- at a code point: a fifth, or no digit, or a digit
module _ (k n c : ℕ) (v : List ℕ) where
  hex_fifth : k ≡ 4 → hex_on (4 - k) n (c ∷ v) ≡ none
  unfolding hex_on
  hex_fifth e = ap (λ (m : ℕ). hex_on m n (c ∷ v)) (let z : 4 - k ≡ 0 = omega arith in z)

  hex_stops : upper_hex c ≡ none → hex_on (4 - k) n (c ∷ v) ≡ none
  unfolding hex_on with
  hex_stops e = by (4 - k)
    where
      by : (m : ℕ) → hex_on m n (c ∷ v) ≡ none
      by zero = refl
      by (suc m) = rw (e, hex_on)

  hex_goes_on : k < 4 → (d : ℕ) → upper_hex c ≡ some d → hex_on (4 - k) n (c ∷ v) ≡ hex_on (4 - (k + 1)) (n * 16 + d) v
  unfolding hex_on with
  hex_goes_on h d e =
      ap (λ (m : ℕ). hex_on m n (c ∷ v)) (let z : 4 - k ≡ suc (4 - (k + 1)) = omega arith in z)
      ∙ ap (λ (o : Option ℕ). with o (λ d. hex_on (4 - (k + 1)) (n * 16 + d) v)) e

hex_over : (k n : ℕ) → k ≡ 4 → hex_on (4 - k) n [] ≡ some n
unfolding hex_on
hex_over k n e = rw e

hex_short : (k n : ℕ) → k ≤ 4 → (k ≡ 4 → ⊥) → hex_on (4 - k) n [] ≡ none
unfolding hex_on
hex_short k n h e =
    ap (λ (m : ℕ). hex_on m n []) (let z : 4 - k ≡ suc (3 - k) = omega (arith, e) in z)

-- a number of k digits
unfoldable pub sixteens : ℕ → ℕ
sixteens zero = 1
sixteens (suc k) = 16 * sixteens k

pub fewer : (k : ℕ) → k < 4 → sixteens k ≤ 4096
unfolding sixteens
fewer zero h = omega arith
fewer (suc zero) h = omega arith
fewer (suc (suc zero)) h = omega arith
fewer (suc (suc (suc zero))) h = omega arith
fewer (suc (suc (suc (suc k)))) h = absurd (let z : ⊥ = omega arith in z)

one_digit_more : (k n d : ℕ) → n < sixteens k → d < 16 → n * 16 + d < sixteens (k + 1)
unfolding sixteens
one_digit_more k n d h g =
    rw add-one (omega arith)

-- k digits, from one place of a text to another
pub record HexadecimalSoFar (s : List ℕ) (from q at n k : ℕ) : Type 0 where
  pub inside : at ≤ length s
  pub few : k ≤ 4
  pub small : n < sixteens k
  pub same : hexadecimal (value_codes q 0 (drop from s)) ≡ hex_on (4 - k) n (value_codes q 0 (drop at s))

pub no_digit_yet : (s : List ℕ) (from q : ℕ) → from ≤ length s → HexadecimalSoFar s from q from 0 0
unfolding sixteens
no_digit_yet s from q h =
    record {
      inside = h;
      few = omega arith;
      small = omega arith;
      same = sym (hex_begins (value_codes q 0 (drop from s)));
    }

module _ (s : List ℕ) (from q at n k : ℕ) (so_far : HexadecimalSoFar s from q at n k) where
  none_is_none : hex_on (4 - k) n (value_codes q 0 (drop at s)) ≡ none
      → none ≡ hexadecimal (value_codes q 0 (drop from s))
  none_is_none e = sym (so_far.same ∙ e)

  -- the value is over
  pub four_read : value_codes q 0 (drop at s) ≡ [] → k ≡ 4 → some n ≡ hexadecimal (value_codes q 0 (drop from s))
  four_read e h = sym (so_far.same ∙ ap (hex_on (4 - k) n) e ∙ hex_over k n h)

  pub too_short : value_codes q 0 (drop at s) ≡ [] → (k ≡ 4 → ⊥)
      → none ≡ hexadecimal (value_codes q 0 (drop from s))
  too_short e h = none_is_none (ap (hex_on (4 - k) n) e ∙ hex_short k n so_far.few h)

  -- it goes on with the code point c
  module _ (c next : ℕ) (read : PointRead s at q c next) where
    pub a_fifth : k ≡ 4 → none ≡ hexadecimal (value_codes q 0 (drop from s))
    a_fifth e =
        none_is_none (ap (hex_on (4 - k) n) read.codes ∙ hex_fifth k n c (value_codes q 0 (drop next s)) e)

    module _ (more_due : k ≡ 4 → ⊥) where
      pub no_digit : none ≡ upper_hex c → none ≡ hexadecimal (value_codes q 0 (drop from s))
      no_digit e =
          none_is_none (ap (hex_on (4 - k) n) read.codes ∙ hex_stops k n c (value_codes q 0 (drop next s)) (sym e))

      module _ (d : ℕ) (digit : some d ≡ upper_hex c) where
        pub value_small : n * 16 + d < 65536
        value_small =
            let most = so_far.few in
            let small = so_far.small in
            let less = fewer k (omega (arith, more_due)) in
            let low = digit_small c d (sym digit) in
            omega arith

        pub hexadecimal_so_far : HexadecimalSoFar s from q next (n * 16 + d) (k + 1)
        hexadecimal_so_far =
            let most = so_far.few in
            let due : k < 4 = omega (arith, more_due) in
            record {
              inside = read.inside;
              few = omega arith;
              small = one_digit_more k n d so_far.small (digit_small c d (sym digit));
              same = so_far.same ∙ ap (hex_on (4 - k) n) read.codes
                  ∙ hex_goes_on k n c (value_codes q 0 (drop next s)) due d (sym digit);
            }
