-- A part row by row: its first row, and the rows of the items that are left behind it.
use Prim.Native.Nat.{ℕ, ◌+◌, ◌≤◌}
use native.Mathlib.Omega.{arith}
use mathlib.Core.Path.{◌≡◌, refl, ap, ap₂, ◌∙◌}
use mathlib.Core.List.{List, [], ◌∷◌, ◌++◌, map, append_assoc}
use lib.ListN.{length, replicate}
use Rattle.xliff.specs.Bytes.{gather}
use Rattle.xliff.specs.Item.{Content}
use Rattle.xliff.specs.Unit.{Part, target_items, head_id}
use Rattle.xliff.specs.Desk.{decimal, blank}
use Rattle.xliff.specs.Good.{GoodHead}
use Rattle.sheet.specs.Column.{shown_all, column_cells, column}
use Rattle.sheet.specs.Sheet.{Row, id_cells, state_cells, later_row, later_rows, part_rows, row_bytes}
use Rattle.sheet_columns.specs.Taken.{taken, untaken, rows_left}
use Rattle.sheet_columns.proofs.TakenLaws.{column_by_row}
use Rattle.sheet_rows.specs.Rows.{head_margin, columns, rest_rows, content_rows}
use Rattle.sheet_rows.proofs.RowLaws.{next_cells, head_written, later_written}

-- the items that a row leaves
abbrev pub left_of : Content → Content
left_of xs = untaken column_cells xs

-- one row more, where a column has items left
rest_by_row : (xs ys : Content) → 1 ≤ length xs + length ys
    → rest_rows xs ys ≡ later_row (next_cells xs) (next_cells ys) ∷ rest_rows (left_of xs) (left_of ys)
unfolding later_rows rows_left taken untaken shown_all gather
rest_by_row [] [] h = let z : ⊥ = omega arith in absurd z
rest_by_row (x ∷ xs) [] h = ap (λ (rows : List (List ℕ)). later_rows rows []) (column_by_row (x ∷ xs))
rest_by_row [] (y ∷ ys) h = ap (λ (rows : List (List ℕ)). map (later_row []) rows) (column_by_row (y ∷ ys))
rest_by_row (x ∷ xs) (y ∷ ys) h = ap₂ later_rows (column_by_row (x ∷ xs)) (column_by_row (y ∷ ys))

-- the bytes of later rows
pub rest_none : gather row_bytes (rest_rows [] []) ≡ []
unfolding later_rows rows_left gather
rest_none = refl

pub rest_next : (xs ys : Content) → 1 ≤ length xs + length ys
    → gather row_bytes (rest_rows xs ys)
    ≡ (replicate 12 blank ++ columns xs ys) ++ gather row_bytes (rest_rows (left_of xs) (left_of ys))
unfolding gather
rest_next xs ys h =
    ap (gather row_bytes) (rest_by_row xs ys h)
    ∙ ap (λ (l : List ℕ). l ++ gather row_bytes (rest_rows (left_of xs) (left_of ys))) (later_written xs ys)

-- the bytes of a part
module _ (n : ℕ) (p : Part) where
  abbrev sources : Content
  sources = p.source

  abbrev targets : Content
  targets = target_items p.target

  abbrev first_row : List ℕ → List ℕ → Row
  first_row s t =
      record {
        position = decimal n;
        id = id_cells (head_id p.head);
        state = state_cells p.head;
        source = s;
        target = t;
      }

  abbrev rows_of : List (List ℕ) → List (List ℕ) → List Row
  rows_of [] ts = []
  rows_of (s ∷ ss) [] = []
  rows_of (s ∷ ss) (t ∷ ts) = first_row s t ∷ later_rows ss ts

  part_by_row : part_rows n p
      ≡ first_row (next_cells sources) (next_cells targets) ∷ rest_rows (left_of sources) (left_of targets)
  unfolding part_rows column
  part_by_row = ap₂ rows_of (column_by_row sources) (column_by_row targets)

  pub part_written : GoodHead p.head
      → gather row_bytes (part_rows n p) ≡ head_margin n p.head ++ content_rows sources targets
  unfolding gather content_rows
  part_written g =
      let rest = gather row_bytes (rest_rows (left_of sources) (left_of targets)) in
      ap (gather row_bytes) part_by_row
      ∙ ap (λ (l : List ℕ). l ++ rest) (head_written n p.head g sources targets)
      ∙ append_assoc (head_margin n p.head) (columns sources targets) rest
