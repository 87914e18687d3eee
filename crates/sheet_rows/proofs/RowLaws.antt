-- The bytes of a row: its first three columns, then the two that show contents.
use Prim.Native.Nat.{ℕ, ◌-◌}
use native.Mathlib.Omega.{arith}
use mathlib.Core.Path.{◌≡◌, refl, ap, ap₂, ◌∙◌}
use mathlib.Core.List.{List, [], ◌∷◌, ◌++◌, append_assoc}
use lib.ListN.{length, replicate}
use Rattle.xliff.specs.Bytes.{gather}
use Rattle.xliff.specs.Text.{utf8, utf8s}
use Rattle.xliff.specs.Item.{Content}
use Rattle.xliff.specs.Unit.{Head, head_id}
use Rattle.xliff.specs.Desk.{decimal, blank, line_feed}
use Rattle.xliff.specs.Good.{each_nil, each_cons, GoodHead}
use Rattle.xliff.proofs.lists.Each.{each_append}
use Rattle.xliff.proofs.text.Utf8.{utf8s_append}
use Rattle.sheet.specs.Column.{shown_all, column_cells}
use Rattle.sheet.specs.Sheet.{Row, id_cells, state_cells, later_row, right_aligned, padded, row_cells, row_bytes}
use Rattle.sheet.proofs.Ascii.{Ascii, ascii_bytes, blanks_ascii, decimal_ascii}
use Rattle.sheet_columns.specs.Taken.{taken, next_row}
use Rattle.sheet_rows.specs.Rows.{margin, head_margin, columns}
use Rattle.sheet_rows.proofs.AsciiLaws.{id_ascii, state_ascii, aligned_ascii, padded_ascii}

-- the cells of the next row of a column
abbrev pub next_cells : Content → List ℕ
next_cells xs = shown_all (taken column_cells xs)

padded_next : (xs : Content) → utf8s (padded column_cells (next_cells xs)) ≡ next_row xs
unfolding padded next_row
padded_next xs =
    let s = next_cells xs in
    let blanks = replicate (column_cells - length s) blank in
    utf8s_append s blanks
    ∙ ap (λ (l : List ℕ). utf8s s ++ l) (ascii_bytes blanks (blanks_ascii (column_cells - length s)))

-- a column, a blank, and what follows
next_ascii : (a b : List ℕ) → Ascii a → Ascii b → Ascii (a ++ (blank ∷ b))
next_ascii a b h k = each_append a (blank ∷ b) h (each_cons {x = blank} (omega arith) k)

next_bytes : (a b : List ℕ) → utf8s (a ++ (blank ∷ b)) ≡ utf8s a ++ (blank ∷ utf8s b)
unfolding utf8s gather utf8
next_bytes a b = utf8s_append a (blank ∷ b)

margin_ascii : (p i s : List ℕ) → Ascii p → Ascii i → Ascii s → Ascii (margin p i s)
unfolding margin
margin_ascii p i s hp hi hs =
    next_ascii (right_aligned 3 p) _ (aligned_ascii 3 p hp)
    (next_ascii (right_aligned 5 i) _ (aligned_ascii 5 i hi)
    (next_ascii (padded 1 s) [] (padded_ascii 1 s hs) each_nil))

-- a row that shows the next cells of two contents
module _ (p i s : List ℕ) (hp : Ascii p) (hi : Ascii i) (hs : Ascii s) (xs ys : Content) where
  abbrev row : Row
  row = record { position = p; id = i; state = s; source = next_cells xs; target = next_cells ys }

  abbrev shown_columns : List ℕ
  shown_columns = padded column_cells (next_cells xs) ++ (blank ∷ padded column_cells (next_cells ys))

  margin_first : row_cells row ≡ margin p i s ++ shown_columns
  unfolding row_cells margin
  margin_first = simp append_assoc

  columns_bytes : utf8s shown_columns ++ (line_feed ∷ []) ≡ columns xs ys
  unfolding columns
  columns_bytes =
      ap (λ (l : List ℕ). l ++ (line_feed ∷ []))
      (next_bytes (padded column_cells (next_cells xs)) (padded column_cells (next_cells ys))
      ∙ ap₂ (λ (k l : List ℕ). k ++ (blank ∷ l)) (padded_next xs) (padded_next ys))
      ∙ append_assoc (next_row xs) (blank ∷ next_row ys) (line_feed ∷ [])

  row_written : row_bytes row ≡ margin p i s ++ columns xs ys
  unfolding row_bytes
  row_written =
      ap (λ (l : List ℕ). utf8s l ++ (line_feed ∷ [])) margin_first
      ∙ ap (λ (l : List ℕ). l ++ (line_feed ∷ []))
      (utf8s_append (margin p i s) shown_columns
      ∙ ap (λ (l : List ℕ). l ++ utf8s shown_columns) (ascii_bytes (margin p i s) (margin_ascii p i s hp hi hs)))
      ∙ append_assoc (margin p i s) (utf8s shown_columns) (line_feed ∷ [])
      ∙ ap (λ (l : List ℕ). margin p i s ++ l) columns_bytes

-- the first row of a part, and a later one
pub head_written : (n : ℕ) (h : Head) → GoodHead h → (xs ys : Content)
    → row_bytes
    (record {
      position = decimal n;
      id = id_cells (head_id h);
      state = state_cells h;
      source = next_cells xs;
      target = next_cells ys;
    })
    ≡ head_margin n h ++ columns xs ys
unfolding head_margin
head_written n h g xs ys =
    row_written (decimal n) (id_cells (head_id h)) (state_cells h) (decimal_ascii n) (id_ascii (head_id h))
    (state_ascii h g) xs ys

no_margin : margin [] [] [] ≡ replicate 12 blank
unfolding margin right_aligned padded
no_margin = refl

pub later_written : (xs ys : Content)
    → row_bytes (later_row (next_cells xs) (next_cells ys)) ≡ replicate 12 blank ++ columns xs ys
unfolding later_row
later_written xs ys =
    row_written [] [] [] each_nil each_nil each_nil xs ys ∙ ap (λ (l : List ℕ). l ++ columns xs ys) no_margin
