-- Stepping stones: a column row by row. `column_by_row` (proofs/TakenLaws) ties them to the specification's `column`.
use Rattle.std.specs.Prelude.{ℕ, ◌-◌, ◌≡◌, cond, List, [], ◌∷◌, ◌++◌, length, replicate}
use Rattle.xliff.specs.Text.{utf8s}
use Rattle.xliff.specs.Item.{Content}
use Rattle.xliff.specs.Desk.{blank}
use Rattle.sheet.specs.Column.{shown, shown_all, fits, column_cells, column}

-- the items that a row with so many cells left takes, and the items that are left for the rows after it
unfoldable pub taken : ℕ → Content → Content
taken left [] = []
taken left (x ∷ xs) = let ys = taken (left - length (shown x)) xs in cond (fits left x) (x ∷ ys) []

unfoldable pub untaken : ℕ → Content → Content
untaken left [] = []
untaken left (x ∷ xs) = let ys = untaken (left - length (shown x)) xs in cond (fits left x) ys (x ∷ xs)

-- nothing more is taken
abbrev pub Ends : ℕ → Content → Type 0
Ends left xs = (taken left xs ≡ []) × (untaken left xs ≡ xs)

-- the bytes of a column's next row, with its padding
unfoldable pub next_row : Content → List ℕ
next_row xs =
    let s = shown_all (taken column_cells xs) in
    utf8s s ++ replicate (column_cells - length s) blank

-- the rows of the items that are left: none if none is left
unfoldable pub rows_left : Content → List (List ℕ)
rows_left [] = []
rows_left (x ∷ xs) = column (x ∷ xs)
