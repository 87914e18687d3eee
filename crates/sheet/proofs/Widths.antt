-- How many cells numbers and shown forms take.
use Prim.Native.Nat.{ℕ, zero, suc, ◌+◌, ◌*◌, ◌/◌, ◌%◌, ◌≤◌, ◌<◌}
use native.Mathlib.Omega.{arith}
use mathlib.Core.Path.{◌≡◌, refl}
use mathlib.Core.Bool.{Bool, true, false, cond}
use mathlib.Core.List.{List, [], ◌∷◌}
use lib.ListN.{length, length-append}
use lib.Dec.{ltb}
use borrow.Author.Tests.{ltb-false, le-leb}
use Rattle.xliff.specs.Item.{Item, start, end, text, character, standalone, isolated, pair, annotation_start, annotation_end}
use Rattle.xliff.specs.Desk.{digits, decimal}
use Rattle.sheet.specs.Column.{right_brace, start_form, end_form, shown, column_cells, fits}

-- a number has no more digits than it may have
digits_within : (f n : ℕ) (rest : List ℕ) → length (digits f n rest) ≤ f + length rest
unfolding digits
digits_within zero n rest = omega arith
digits_within (suc f) n rest = by (ltb n 10) (digits_within f (n / 10) ((48 + n % 10) ∷ rest))
  where
    by : (b : Bool) → length (digits f (n / 10) ((48 + n % 10) ∷ rest)) ≤ f + suc (length rest)
        → length (cond b ((48 + n % 10) ∷ rest) (digits f (n / 10) ((48 + n % 10) ∷ rest))) ≤ suc f + length rest
    by true h = omega arith
    by false h = omega arith

pub decimal_within : (n : ℕ) → length (decimal n) ≤ 20
unfolding decimal
decimal_within n = omega (arith, digits_within 20 n [])

-- a number below 10, 100, 1000 .. has at most 1, 2, 3 .. digits
abbrev pub tens : ℕ → ℕ
tens zero = 1
tens (suc k) = 10 * tens k

digits_below : (f k n : ℕ) (rest : List ℕ) → n < tens (suc k) → length (digits f n rest) ≤ suc k + length rest
unfolding digits
digits_below zero k n rest h = omega arith
digits_below (suc f) k n rest h = by (ltb n 10) refl k h (λ j g. digits_below f j (n / 10) ((48 + n % 10) ∷ rest) g)
  where
    by : (b : Bool) → ltb n 10 ≡ b → (k : ℕ) → n < tens (suc k)
        → ((j : ℕ) → n / 10 < tens (suc j)
        → length (digits f (n / 10) ((48 + n % 10) ∷ rest)) ≤ suc j + suc (length rest))
        → length (cond b ((48 + n % 10) ∷ rest) (digits f (n / 10) ((48 + n % 10) ∷ rest))) ≤ suc k + length rest
    by true e k h ih = omega arith
    by false e zero h ih = let a = ltb-false n 10 e in let z : ⊥ = omega arith in absurd z
    by false e (suc j) h ih = let a = ih j (omega arith) in omega arith

pub decimal_3 : (n : ℕ) → n < 1000 → length (decimal n) ≤ 3
unfolding decimal
decimal_3 n h = digits_below 20 2 n [] h

pub decimal_5 : (n : ℕ) → n < 100000 → length (decimal n) ≤ 5
unfolding decimal
decimal_5 n h = digits_below 20 4 n [] h

-- a shown form has at most 22 cells, so that each has room in a row
start_within : (i : ℕ) → length (start_form i) ≤ 21
unfolding start_form
start_within i = omega (arith, decimal_within i)

pub end_within : (i : ℕ) → length (end_form i) ≤ 21
unfolding end_form
end_within i = omega (arith, decimal_within i, length-append (decimal i) (right_brace ∷ []))

pub shown_short : (x : Item) → length (shown x) ≤ 22
unfolding shown
shown_short (text c) = omega arith
shown_short (character c) = omega arith
shown_short (standalone f) = omega (arith, end_within f.id)
shown_short (isolated start f) = omega (arith, start_within f.id)
shown_short (isolated end f) = omega (arith, end_within f.id)
shown_short (pair start w f) = omega (arith, start_within f.id)
shown_short (pair end w f) = omega (arith, end_within f.id)
shown_short (annotation_start w i t) = omega (arith, start_within i)
shown_short (annotation_end w i) = omega (arith, end_within i)

pub shown_within : (x : Item) → length (shown x) ≤ column_cells
shown_within x = omega (arith, shown_short x)

-- and at least one cell
end_some : (i : ℕ) → 1 ≤ length (end_form i)
unfolding end_form
end_some i = omega (arith, length-append (decimal i) (right_brace ∷ []))

pub shown_some : (x : Item) → 1 ≤ length (shown x)
unfolding shown start_form
shown_some (text c) = omega arith
shown_some (character c) = omega arith
shown_some (standalone f) = omega arith
shown_some (isolated start f) = omega arith
shown_some (isolated end f) = end_some f.id
shown_some (pair start w f) = omega arith
shown_some (pair end w f) = end_some f.id
shown_some (annotation_start w i t) = omega arith
shown_some (annotation_end w i) = end_some i

pub fits_alone : (x : Item) → fits column_cells x ≡ true
unfolding fits
fits_alone x = le-leb (length (shown x)) column_cells (shown_within x)
