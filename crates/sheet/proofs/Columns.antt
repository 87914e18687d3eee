-- Columns: the items in their rows, in order, whole, each row full; the cells read down.
use Prim.Native.Nat.{ℕ, ◌+◌, ◌-◌, ◌≤◌, ◌<◌}
use native.Mathlib.Omega.{arith}
use mathlib.Core.Path.{◌≡◌, refl, sym, ap, ap₂, ◌∙◌, subst}
use mathlib.Core.Bool.{Bool, true, false, cond}
use mathlib.Core.List.{List, [], ◌∷◌, ◌++◌, map, append_assoc}
use lib.ListN.{length, length-append}
use borrow.Author.Tests.{leb-true, leb-false}
use Rattle.xliff.specs.Bytes.{gather}
use Rattle.xliff.specs.Item.{Item, Content}
use Rattle.xliff.specs.Good.{each_nil, each_cons}
use Rattle.sheet.specs.Column.{shown, shown_all, column_cells, Filled, in_row, in_next_row, fits, left_behind, fill, column}
use Rattle.sheet.specs.Claims.{joined, Within, Full}
use Rattle.sheet.proofs.Widths.{shown_within}

-- the cells left behind an item that fits, that begins a row
pub behind_fitting : (left : ℕ) (x : Item) → fits left x ≡ true → left_behind left x ≡ left - length (shown x)
unfolding left_behind
behind_fitting left x e = rw e refl

pub behind_next : (left : ℕ) (x : Item) → fits left x ≡ false → left_behind left x ≡ column_cells - length (shown x)
unfolding left_behind
behind_next left x e = rw e refl

pub fits_room : (left : ℕ) (x : Item) → fits left x ≡ true → length (shown x) ≤ left
unfolding fits
fits_room left x e = leb-true _ _ e

pub fits_not : (left : ℕ) (x : Item) → fits left x ≡ false → left < length (shown x)
unfolding fits
fits_not left x e = leb-false _ _ e

-- one step of the filling
pub fill_fitting : (left : ℕ) (x : Item) (xs : Content) → fits left x ≡ true
    → fill left (x ∷ xs) ≡ in_row x (fill (left - length (shown x)) xs)
unfolding fill
fill_fitting left x xs e = rw (e, behind_fitting left x e) refl

pub fill_next : (left : ℕ) (x : Item) (xs : Content) → fits left x ≡ false
    → fill left (x ∷ xs) ≡ in_next_row x (fill (column_cells - length (shown x)) xs)
unfolding fill
fill_next left x xs e = rw (e, behind_next left x e) refl

-- the items in their rows, from a row on that has some cells left
abbrev pub FullFrom : ℕ → Content → List Content → Type 0
FullFrom left ys [] = Unit {0}
FullFrom left ys ([] ∷ r) = ⊥
FullFrom left ys ((z ∷ zs) ∷ r) = (left < length (shown_all ys) + length (shown z)) × Full (z ∷ zs) r

pub record LaidOf (left : ℕ) (xs : Content) (f : Filled) : Type 0 where
  pub row : Content
  pub later : List Content
  pub in_order : row ++ joined later ≡ xs
  pub shows_row : f.row ≡ shown_all row
  pub shows_later : f.later ≡ map shown_all later
  pub row_within : length (shown_all row) ≤ left
  pub within : Within later
  pub full : FullFrom left row later

pub shown_cons : (x : Item) (xs : Content) → length (shown_all (x ∷ xs)) ≡ length (shown x) + length (shown_all xs)
unfolding shown_all gather
shown_cons x xs = length-append (shown x) (shown_all xs)

full_in : (left : ℕ) (x : Item) (ys : Content) (later : List Content) → length (shown x) ≤ left
    → FullFrom (left - length (shown x)) ys later → FullFrom left (x ∷ ys) later
full_in left x ys [] h f = tt
full_in left x ys ([] ∷ r) h f = f
full_in left x ys ((z ∷ zs) ∷ r) h (a, b) = (omega (arith, shown_cons x ys), b)

pub full_is : (ys : Content) (later : List Content) → FullFrom column_cells ys later → Full ys later
full_is ys [] f = tt
full_is ys ([] ∷ r) f = f
full_is ys ((z ∷ zs) ∷ r) f = f

laid_in : (left : ℕ) (x : Item) (xs : Content) (f : Filled) → length (shown x) ≤ left
    → LaidOf (left - length (shown x)) xs f → LaidOf left (x ∷ xs) (in_row x f)
unfolding in_row shown_all gather
laid_in left x xs f h l =
    record {
      row = x ∷ l.row;
      later = l.later;
      in_order = ap {B = Content} (λ ys. x ∷ ys) l.in_order;
      shows_row = ap (λ (s : List ℕ). shown x ++ s) l.shows_row;
      shows_later = l.shows_later;
      row_within = omega (arith, shown_cons x l.row, l.row_within);
      within = l.within;
      full = full_in left x l.row l.later h l.full;
    }

laid_next : (left : ℕ) (x : Item) (xs : Content) (f : Filled) → left < length (shown x)
    → LaidOf (column_cells - length (shown x)) xs f → LaidOf left (x ∷ xs) (in_next_row x f)
unfolding in_next_row shown_all gather
laid_next left x xs f h l =
    record {
      row = [];
      later = (x ∷ l.row) ∷ l.later;
      in_order = ap {B = Content} (λ ys. x ∷ ys) l.in_order;
      shows_row = refl;
      shows_later = ap₂ ◌∷◌ (ap (λ (s : List ℕ). shown x ++ s) l.shows_row) l.shows_later;
      row_within = omega arith;
      within = each_cons {x = x ∷ l.row} (omega (arith, shown_cons x l.row, l.row_within, shown_within x))
          l.within;
      full = (
        omega arith,
        full_is (x ∷ l.row) l.later
            (full_in column_cells x l.row l.later (shown_within x) l.full),
      );
    }

pub laid : (left : ℕ) (xs : Content) → LaidOf left xs (fill left xs)
unfolding fill shown_all gather
laid left [] =
    record {
      row = [];
      later = [];
      in_order = refl;
      shows_row = refl;
      shows_later = refl;
      row_within = omega arith;
      within = each_nil;
      full = tt;
    }
laid left (x ∷ xs) = by (fits left x) refl (λ k. laid k xs)
  where
    by : (b : Bool) → fits left x ≡ b → ((k : ℕ) → LaidOf k xs (fill k xs)) → LaidOf left (x ∷ xs) (fill left (x ∷ xs))
    by true e ih =
        subst (LaidOf left (x ∷ xs)) (sym (fill_fitting left x xs e))
        (laid_in left x xs (fill (left - length (shown x)) xs) (fits_room left x e) (ih (left - length (shown x))))
    by false e ih =
        subst (LaidOf left (x ∷ xs)) (sym (fill_next left x xs e))
        (laid_next left x xs (fill (column_cells - length (shown x)) xs) (fits_not left x e)
        (ih (column_cells - length (shown x))))

-- the cells read down
abbrev pub rows_down : List (List ℕ) → List ℕ
rows_down rows = gather (λ (row : List ℕ). row) rows

fill_down : (left : ℕ) (xs : Content) → (fill left xs).row ++ rows_down (fill left xs).later ≡ shown_all xs
unfolding fill shown_all gather in_row in_next_row
fill_down left [] = refl
fill_down left (x ∷ xs) = by (fits left x) (fill_down (left_behind left x) xs)
  where
    f : Filled
    f = fill (left_behind left x) xs

    by : (b : Bool) → f.row ++ rows_down f.later ≡ shown_all xs
        → (cond b (in_row x f) (in_next_row x f)).row
        ++ rows_down (cond b (in_row x f) (in_next_row x f)).later ≡ shown x ++ shown_all xs
    by true h = append_assoc (shown x) f.row (rows_down f.later) ∙ ap (λ (s : List ℕ). shown x ++ s) h
    by false h = append_assoc (shown x) f.row (rows_down f.later) ∙ ap (λ (s : List ℕ). shown x ++ s) h

pub column_down : (xs : Content) → rows_down (column xs) ≡ shown_all xs
unfolding column gather
column_down xs = fill_down column_cells xs
