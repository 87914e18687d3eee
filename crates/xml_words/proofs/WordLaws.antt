-- A value compared with a word, code point by code point.
use Prim.Native.Nat.{ℕ, ◌+◌, ◌≤◌, ◌<◌}
use mathlib.Core.Path.{◌≡◌, refl, sym, ap, ◌∙◌}
use mathlib.Core.Bool.{Bool, true, false, not, true≢false}
use mathlib.Core.List.{List, [], ◌∷◌}
use native.Mathlib.Numerals.{add-one}
use native.Mathlib.Omega.{arith}
use lib.ListN.{length, get_or, drop, drop_of_length-le}
use lib.Seq.{drop-cons}
use borrow.Author.Tests.{eq-eqb, ne_eqb}
use Rattle.xliff.specs.Bytes.{equal}
use Rattle.xml_values.specs.Values.{value_codes}
use Rattle.std.specs.Prelude.{Option as RustOption, Some, None, is_some}
use Rattle.xml_words.specs.Codes.{PointRead, CodeRead}
use Rattle.xml_words.specs.declared.Code.{Code}

-- within the word
module _ (word : List ℕ) (k : ℕ) (inside : k < length word) where
  word_goes_on : (c : ℕ) (v : List ℕ) → c ≡ get_or word k 0 → equal (c ∷ v) (drop k word) ≡ equal v (drop (k + 1) word)
  unfolding equal
  word_goes_on c v e = ap (equal (c ∷ v)) (drop-cons word k 0 inside) ∙ rw (eq-eqb c (get_or word k 0) e, add-one) refl

  word_differs : (c : ℕ) (v : List ℕ) → (c ≡ get_or word k 0 → ⊥) → equal (c ∷ v) (drop k word) ≡ false
  unfolding equal
  word_differs c v e = ap (equal (c ∷ v)) (drop-cons word k 0 inside) ∙ rw (ne_eqb c (get_or word k 0) e)

  value_too_short : equal [] (drop k word) ≡ false
  unfolding equal
  value_too_short = ap (equal []) (drop-cons word k 0 inside)

-- behind it
module _ (word : List ℕ) (k : ℕ) (behind : length word ≤ k) where
  value_too_long : (c : ℕ) (v : List ℕ) → equal (c ∷ v) (drop k word) ≡ false
  unfolding equal
  value_too_long c v = rw (drop_of_length-le word {i = k} behind)

  both_over : equal [] (drop k word) ≡ true
  unfolding equal
  both_over = rw (drop_of_length-le word {i = k} behind)

-- what is left of the value, from one place of a text to another, is to be compared with what is left of the word
pub record WordSoFar (s word : List ℕ) (from q at k : ℕ) : Type 0 where
  pub inside : at ≤ length s
  pub in_word : k ≤ length word
  pub same : equal (value_codes q 0 (drop from s)) word ≡ equal (value_codes q 0 (drop at s)) (drop k word)

pub nothing_compared : (s word : List ℕ) (from q : ℕ) → from ≤ length s → WordSoFar s word from q from 0
nothing_compared s word from q h = record { inside = h; in_word = omega arith; same = refl }

module _ (s word : List ℕ) (from q at k : ℕ) (so_far : WordSoFar s word from q at k) where
  -- the value is over
  module _ (over : value_codes q 0 (drop at s) ≡ []) where
    told : equal (value_codes q 0 (drop from s)) word ≡ equal [] (drop k word)
    told = so_far.same ∙ ap (λ (v : List ℕ). equal v (drop k word)) over

    pub part_of_word : k < length word → false ≡ equal (value_codes q 0 (drop from s)) word
    part_of_word h = sym (told ∙ value_too_short word k h)

    whole_word : length word ≤ k → true ≡ equal (value_codes q 0 (drop from s)) word
    whole_word h = sym (told ∙ both_over word k h)

  -- it goes on with the code point c
  module _ (c next : ℕ) (read : PointRead s at q c next) where
    rest : List ℕ
    rest = value_codes q 0 (drop next s)

    goes_on : equal (value_codes q 0 (drop from s)) word ≡ equal (c ∷ rest) (drop k word)
    unfolding rest
    goes_on = so_far.same ∙ ap (λ (v : List ℕ). equal v (drop k word)) read.codes

    more_than_word : length word ≤ k → false ≡ equal (value_codes q 0 (drop from s)) word
    more_than_word h = sym (goes_on ∙ value_too_long word k h c rest)

    pub other_word : k < length word → (c ≡ get_or word k 0 → ⊥) → false ≡ equal (value_codes q 0 (drop from s)) word
    other_word h e = sym (goes_on ∙ word_differs word k h c rest e)

    pub word_so_far : k < length word → c ≡ get_or word k 0 → WordSoFar s word from q next (k + 1)
    unfolding rest
    word_so_far h e =
        record { inside = read.inside; in_word = omega arith; same = goes_on ∙ word_goes_on word k h c rest e }

  -- behind the word: whether the value is over too
  pub word_ends : (r : RustOption Code) → CodeRead s at q r → length word ≤ k → (b : Bool) → is_some r ≡ not b
      → b ≡ equal (value_codes q 0 (drop from s)) word
  word_ends None over h true e = whole_word over h
  word_ends None over h false e = absurd (true≢false (sym e))
  word_ends (Some c) read h true e = absurd (true≢false e)
  word_ends (Some c) read h false e = more_than_word c.point c.next read h
