-- A column row by row: what a row takes, and the rows of what it leaves.
use Prim.Native.Nat.{ℕ, zero, suc, ◌-◌}
use native.Mathlib.Omega.{arith}
use mathlib.Core.Path.{◌≡◌, refl, sym, ap, ap₂, ◌∙◌, subst}
use mathlib.Core.Bool.{Bool, true, false}
use mathlib.Core.List.{List, [], ◌∷◌, ◌++◌, map}
use lib.ListN.{length, take, drop}
use lib.Seq.{take-nil, drop-nil}
use borrow.Author.Tests.{lt-leb, le-leb}
use Rattle.xliff.specs.Bytes.{gather}
use Rattle.xliff.specs.Item.{Item, Content, text}
use Rattle.sheet.specs.Column.{shown, shown_all, column_cells, Filled, in_row, in_next_row, fits, fill, column}
use Rattle.sheet.proofs.Widths.{shown_some, fits_alone}
use Rattle.sheet.proofs.Columns.{fill_fitting, fill_next}
use Rattle.sheet_columns.specs.Taken.{taken, untaken, Ends, rows_left}

abbrev ByRow : ℕ → Content → Filled → Type 0
ByRow left xs f = (f.row ≡ shown_all (taken left xs)) × (f.later ≡ rows_left (untaken left xs))

begins_row : (x : Item) (xs : Content)
    → (in_next_row x (fill (column_cells - length (shown x)) xs)).later ≡ column (x ∷ xs)
unfolding in_next_row in_row column
begins_row x xs = rw (fill_fitting column_cells x xs (fits_alone x)) refl

pub fill_by_row : (left : ℕ) (xs : Content)
    → ((fill left xs).row ≡ shown_all (taken left xs)) × ((fill left xs).later ≡ rows_left (untaken left xs))
unfolding fill taken untaken rows_left shown_all gather in_row in_next_row
fill_by_row left [] = (refl, refl)
fill_by_row left (x ∷ xs) = by (fits left x) refl (fill_by_row (left - length (shown x)) xs)
  where
    by : (b : Bool) → fits left x ≡ b → ByRow (left - length (shown x)) xs (fill (left - length (shown x)) xs)
        → ByRow left (x ∷ xs) (fill left (x ∷ xs))
    by true e (h, k) =
        subst (ByRow left (x ∷ xs)) (sym (fill_fitting left x xs e))
        (rw e (ap (λ (s : List ℕ). shown x ++ s) h, k))
    by false e r =
        subst (ByRow left (x ∷ xs)) (sym (fill_next left x xs e))
        (rw e (refl, begins_row x xs))

pub column_by_row : (xs : Content) → column xs ≡ shown_all (taken column_cells xs) ∷ rows_left (untaken column_cells xs)
unfolding column
column_by_row xs = let (h, k) = fill_by_row column_cells xs in ap₂ ◌∷◌ h k

-- one item more, one that does not fit, none
pub takes_fitting : (left : ℕ) (x : Item) (xs : Content) → fits left x ≡ true
    → (taken left (x ∷ xs) ≡ x ∷ taken (left - length (shown x)) xs)
    × (untaken left (x ∷ xs) ≡ untaken (left - length (shown x)) xs)
unfolding taken untaken
takes_fitting left x xs e = (rw e refl, rw e refl)

pub ends_full : (left : ℕ) (x : Item) (xs : Content) → fits left x ≡ false → Ends left (x ∷ xs)
unfolding taken untaken
ends_full left x xs e = (rw e refl, rw e refl)

pub ends_over : (left : ℕ) → Ends left []
unfolding taken untaken
ends_over left = (refl, refl)

pub ends_filled : (xs : Content) → Ends 0 xs
unfolding fits
ends_filled [] = ends_over 0
ends_filled (x ∷ xs) = ends_full 0 x xs (lt-leb (length (shown x)) 0 (shown_some x))

-- code points of a text: as many as there are cells
point_fits : (k c : ℕ) → (fits (suc k) (text c) ≡ true) × (suc k - length (shown (text c)) ≡ k)
unfolding fits shown
point_fits k c = (le-leb 1 (suc k) (omega arith), omega arith)

pub takes_points : (k : ℕ) (cs : List ℕ) (ys : Content)
    → (taken k (map text cs ++ ys) ≡ map text (take k cs) ++ taken (k - length cs) (map text (drop k cs) ++ ys))
    × (untaken k (map text cs ++ ys) ≡ untaken (k - length cs) (map text (drop k cs) ++ ys))
takes_points k [] ys =
    let same : k - 0 ≡ k = omega arith in (
      rw (take-nil, drop-nil, same) refl,
      rw (drop-nil, same) refl,
    )
takes_points zero (c ∷ cs) ys =
    let none : 0 - suc (length cs) ≡ 0 = omega arith in (
      ap (λ (n : ℕ). taken n (text c ∷ (map text cs ++ ys))) (sym none),
      ap (λ (n : ℕ). untaken n (text c ∷ (map text cs ++ ys))) (sym none),
    )
takes_points (suc k) (c ∷ cs) ys =
    let (fit, left) = point_fits k c in
    let (a, b) = takes_fitting (suc k) (text c) (map text cs ++ ys) fit in
    let (p, q) = takes_points k cs ys in
    let less : k - length cs ≡ suc k - suc (length cs) = omega arith in (
      a ∙ ap (λ (n : ℕ). text c ∷ taken n (map text cs ++ ys)) left ∙ ap {B = Content} (λ l. text c ∷ l) p
          ∙ ap (λ (n : ℕ). text c ∷ (map text (take k cs) ++ taken n (map text (drop k cs) ++ ys))) less,
      b ∙ ap (λ (n : ℕ). untaken n (map text cs ++ ys)) left ∙ q
          ∙ ap (λ (n : ℕ). untaken n (map text (drop k cs) ++ ys)) less,
    )
