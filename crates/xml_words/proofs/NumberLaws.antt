-- A decimal number, digit by digit: with 0 read so far no digit was read, since a leading zero is refused at once.
use Prim.Native.Nat.{ℕ, ◌+◌, ◌*◌, ◌-◌, ◌≤◌, ◌<◌}
use mathlib.Core.Path.{◌≡◌, refl, sym, ap, ◌∙◌}
use mathlib.Core.Bool.{Bool, true, false, not, ◌&&◌, ◌||◌, cond}
use mathlib.Core.List.{List, [], ◌∷◌}
use mathlib.Core.Option.{Option, none, some}
use native.Mathlib.Omega.{arith}
use lib.ListN.{length, get_or, drop}
use lib.Dec.{eqb, leb}
use borrow.Author.Tests.{eqb-false, eq-eqb, ne_eqb, leb-true, le-leb, lt-leb}
use Rattle.xliff.specs.Text.{between}
use Rattle.xliff.proofs.lists.Tests.{and_left, and_right, and_false}
use Rattle.xml.specs.Attributes.{all_digits, decimal_value, number}
use Rattle.xml.proofs.BoundLaws.{grows}
use Rattle.xml_values.specs.Values.{value_codes}
use Rattle.xml_words.specs.Codes.{PointRead}

-- the number that a value gives whose digits so far give n
unfoldable pub number_on : ℕ → List ℕ → Option ℕ
number_on n v =
    cond (all_digits v && (not (eqb n 0 && eqb (get_or v 0 48) 48) && between 1 (decimal_value n v) 65535))
    (some (decimal_value n v)) none

number_begins : (v : List ℕ) → number_on 0 v ≡ number v
unfolding number_on number
number_begins v = refl

number_over : (n : ℕ) → (n ≡ 0 → ⊥) → n ≤ 65535 → number_on n [] ≡ some n
unfolding number_on all_digits decimal_value between
number_over n h k = rw (ne_eqb n 0 h, le-leb 1 n (omega arith), le-leb n 65535 k)

number_empty : (n : ℕ) → n ≡ 0 → number_on n [] ≡ none
unfolding number_on all_digits
number_empty n e = rw (eq-eqb n 0 e)

-- what is above 65535 stays there
number_large : (n : ℕ) (v : List ℕ) → 65535 < n → number_on n v ≡ none
unfolding number_on between
number_large n v h =
    let grown = grows n v in
    rw (
      lt-leb (decimal_value n v) 65535 (omega arith),
      and_false (leb 1 (decimal_value n v)),
      and_false (not (eqb n 0 && eqb (get_or v 0 48) 48)),
      and_false (all_digits v),
    )

-- one code point more: no digit, or a leading zero; or a digit
module _ (n c : ℕ) (v : List ℕ) where
  number_stops : not (between 48 c 57) || eqb n 0 && eqb c 48 ≡ true → number_on n (c ∷ v) ≡ none
  unfolding number_on all_digits
  number_stops e = by (between 48 c 57) (eqb n 0 && eqb c 48) e
    where
      by : (x y : Bool) → not x || y ≡ true
          → ◌≡◌ {A = Option ℕ}
          (cond (x && all_digits v && (not y && between 1 (decimal_value n (c ∷ v)) 65535)) (some (decimal_value n (c ∷ v)))
          none) none
      by false y e = refl
      by true true e = rw (and_false (all_digits v))
      by true false e = absurd (let z : ◌≡◌ {A = ℕ} 0 1 = cc in omega arith)

  module _ (fine : not (between 48 c 57) || eqb n 0 && eqb c 48 ≡ false) where
    parts : (x y : Bool) → not x || y ≡ false → (x ≡ true) × (y ≡ false)
    parts true true e = absurd (let z : ◌≡◌ {A = ℕ} 0 1 = cc in omega arith)
    parts true false e = (refl, refl)
    parts false y e = absurd (let z : ◌≡◌ {A = ℕ} 0 1 = cc in omega arith)

    both : (between 48 c 57 ≡ true) × (eqb n 0 && eqb c 48 ≡ false)
    both = parts (between 48 c 57) (eqb n 0 && eqb c 48) fine

    pub digit_low : 48 ≤ c
    unfolding between
    digit_low = leb-true 48 c (and_left (leb 48 c) (leb c 57) both.0)

    pub digit_high : c ≤ 57
    unfolding between
    digit_high = leb-true c 57 (and_right (leb 48 c) (leb c 57) both.0)

    some_digit : n * 10 + (c - 48) ≡ 0 → ⊥
    some_digit e = by (eqb n 0) refl (eqb c 48) refl both.1
      where
        by : (x : Bool) → eqb n 0 ≡ x → (y : Bool) → eqb c 48 ≡ y → x && y ≡ false → ⊥
        by true p true q r = let z : ◌≡◌ {A = ℕ} 0 1 = cc in omega arith
        by true p false q r =
            let apart = eqb-false c 48 q in
            let low = digit_low in
            apart (omega arith)
        by false p y q r =
            let apart = eqb-false n 0 p in
            apart (omega arith)

    number_goes_on : number_on n (c ∷ v) ≡ number_on (n * 10 + (c - 48)) v
    unfolding number_on all_digits decimal_value
    number_goes_on = rw (both.0, both.1, ne_eqb (n * 10 + (c - 48)) 0 some_digit)

-- a number so far, from one place of a text to another
pub record NumberSoFar (s : List ℕ) (from q at n : ℕ) : Type 0 where
  pub inside : at ≤ length s
  pub small : n ≤ 65535
  pub same : number (value_codes q 0 (drop from s)) ≡ number_on n (value_codes q 0 (drop at s))

pub no_digit_yet : (s : List ℕ) (from q : ℕ) → from ≤ length s → NumberSoFar s from q from 0
no_digit_yet s from q h =
    record { inside = h; small = omega arith; same = sym (number_begins (value_codes q 0 (drop from s))) }

module _ (s : List ℕ) (from q at n : ℕ) (so_far : NumberSoFar s from q at n) where
  none_is_none : number_on n (value_codes q 0 (drop at s)) ≡ none → none ≡ number (value_codes q 0 (drop from s))
  none_is_none e = sym (so_far.same ∙ e)

  -- the value is over
  pub a_number : value_codes q 0 (drop at s) ≡ [] → (n ≡ 0 → ⊥) → some n ≡ number (value_codes q 0 (drop from s))
  a_number e h = sym (so_far.same ∙ ap (number_on n) e ∙ number_over n h so_far.small)

  pub no_digits : value_codes q 0 (drop at s) ≡ [] → n ≡ 0 → none ≡ number (value_codes q 0 (drop from s))
  no_digits e h = none_is_none (ap (number_on n) e ∙ number_empty n h)

  -- it goes on with the code point c
  module _ (c next : ℕ) (read : PointRead s at q c next) where
    pub no_number : not (between 48 c 57) || eqb n 0 && eqb c 48 ≡ true → none ≡ number (value_codes q 0 (drop from s))
    no_number e =
        none_is_none (ap (number_on n) read.codes ∙ number_stops n c (value_codes q 0 (drop next s)) e)

    module _ (fine : not (between 48 c 57) || eqb n 0 && eqb c 48 ≡ false) where
      one_digit_more : number_on n (value_codes q 0 (drop at s))
          ≡ number_on (n * 10 + (c - 48)) (value_codes q 0 (drop next s))
      one_digit_more = ap (number_on n) read.codes ∙ number_goes_on n c (value_codes q 0 (drop next s)) fine

      pub too_large : 65535 < n * 10 + (c - 48) → none ≡ number (value_codes q 0 (drop from s))
      too_large h = none_is_none (one_digit_more ∙ number_large (n * 10 + (c - 48)) (value_codes q 0 (drop next s)) h)

      pub number_so_far : n * 10 + (c - 48) ≤ 65535 → NumberSoFar s from q next (n * 10 + (c - 48))
      number_so_far h = record { inside = read.inside; small = h; same = so_far.same ∙ one_digit_more }
