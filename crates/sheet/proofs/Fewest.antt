-- No other way to put the items into rows, in order and each whole, takes fewer rows than the column. With that,
-- all that is claimed of a column.
use Prim.Native.Nat.{ℕ, suc, ◌-◌, ◌≤◌}
use native.Mathlib.Omega.{arith}
use mathlib.Core.Path.{◌≡◌, refl, ap₂, subst}
use mathlib.Core.Bool.{Bool, true, false}
use mathlib.Core.List.{List, [], ◌∷◌, ◌++◌}
use lib.ListN.{length}
use borrow.Author.Tests.{le-leb}
use Rattle.xliff.specs.Bytes.{gather}
use Rattle.xliff.specs.Item.{Item, Content}
use Rattle.xliff.specs.Good.{each_nil, each_cons}
use Rattle.sheet.specs.Column.{shown, shown_all, column_cells, in_row, in_next_row, fits, fill, column}
use Rattle.sheet.specs.Claims.{joined, Within, Order5Columns}
use Rattle.sheet.proofs.Columns.{fits_room, fits_not, fill_fitting, fill_next, laid, full_is, shown_cons, column_down}

-- the rows after the one begun
abbrev more : ℕ → Content → ℕ
more left xs = length (fill left xs).later

more_fitting : (left : ℕ) (x : Item) (xs : Content) → fits left x ≡ true
    → more left (x ∷ xs) ≡ more (left - length (shown x)) xs
unfolding in_row
more_fitting left x xs e = rw (fill_fitting left x xs e) refl

more_next : (left : ℕ) (x : Item) (xs : Content) → fits left x ≡ false
    → more left (x ∷ xs) ≡ suc (more (column_cells - length (shown x)) xs)
unfolding in_next_row
more_next left x xs e = rw (fill_next left x xs e) refl

fits_long : (left : ℕ) (x : Item) → length (shown x) ≤ left → fits left x ≡ true
unfolding fits
fits_long left x h = le-leb (length (shown x)) left h

-- with more cells left no more rows come after, and with fewer at most one more
abbrev Steady : ℕ → ℕ → Content → Type 0
Steady less left xs = (more left xs ≤ more less xs) × (more less xs ≤ suc (more left xs))

steady : (less left : ℕ) (xs : Content) → less ≤ left → left ≤ column_cells → Steady less left xs
unfolding fill
steady less left [] h k = (omega arith, omega arith)
steady less left (x ∷ xs) h k = by (fits less x) refl (fits left x) refl (λ a b p q. steady a b xs p q)
  where
    by : (b : Bool) → fits less x ≡ b → (c : Bool) → fits left x ≡ c
        → ((a b : ℕ) → a ≤ b → b ≤ column_cells → Steady a b xs) → Steady less left (x ∷ xs)
    by true e true f ih =
        let r = ih (less - length (shown x)) (left - length (shown x)) (omega (arith, fits_room less x e))
        (omega arith) in
        let a = more_fitting less x xs e in
        let b = more_fitting left x xs f in
        (omega arith, omega arith)
    by true e false f ih =
        let a = fits_room less x e in
        let b = fits_not left x f in
        let z : ⊥ = omega arith in
        absurd z
    by false e true f ih =
        let r = ih (left - length (shown x)) (column_cells - length (shown x)) (omega (arith, fits_room left x f))
        (omega arith) in
        let a = more_next less x xs e in
        let b = more_fitting left x xs f in
        (omega arith, omega arith)
    by false e false f ih =
        let a = more_next less x xs e in
        let b = more_next left x xs f in
        (omega arith, omega arith)

-- items that have room in the row begun bring no row more
in_room : (zs rest : Content) (n left : ℕ) → ((k : ℕ) → k ≤ column_cells → more k rest ≤ n) → left ≤ column_cells
    → length (shown_all zs) ≤ left → more left (zs ++ rest) ≤ n
in_room [] rest n left h k l = h left k
in_room (z ∷ zs) rest n left h k l =
    goes_in (in_room zs rest n (left - length (shown z)) h (omega arith) (omega (arith, shown_cons z zs)))
  where
    fitting : fits left z ≡ true
    fitting = fits_long left z (omega (arith, shown_cons z zs))

    goes_in : more (left - length (shown z)) (zs ++ rest) ≤ n → more left (z ∷ (zs ++ rest)) ≤ n
    goes_in q = let e = more_fitting left z (zs ++ rest) fitting in omega arith

at_most : (zss : List Content) → Within zss → (k : ℕ) → k ≤ column_cells → more k (joined zss) ≤ length zss
unfolding fill gather
at_most [] each_nil k h = omega arith
at_most (zs ∷ zss) (each_cons p r) k h =
    let a = in_room zs (joined zss) (length zss) column_cells (at_most zss r) (omega arith) p in
    let b = steady k column_cells (zs ++ joined zss) h (omega arith) in
    omega arith

pub fewest : (xs zs : Content) (zss : List Content) → zs ++ joined zss ≡ xs → Within (zs ∷ zss)
    → length (column xs) ≤ length (zs ∷ zss)
unfolding column
fewest xs zs zss e (each_cons p r) =
    let a = in_room zs (joined zss) (length zss) column_cells (at_most zss r) (omega arith) p in
    subst (λ (ys : Content). suc (more column_cells ys) ≤ suc (length zss)) e (omega arith)

pub order_5_columns : Order5Columns
unfolding Order5Columns column
order_5_columns xs =
    let l = laid column_cells xs in
    record {
      first = l.row;
      later = l.later;
      in_order = l.in_order;
      whole = ap₂ ◌∷◌ l.shows_row l.shows_later;
      within = each_cons l.row_within l.within;
      full = full_is l.row l.later l.full;
      down = column_down xs;
      fewest = fewest xs;
    }
