-- The review sheet. Document 02, order 5: "Reviewers print units on pages of 79 columns: part position 3, id 5, state
-- 1, source 33, target 33, one blank between columns."
use Rattle.std.specs.Prelude.{ℕ, suc, ◌-◌, cond, List, [], ◌∷◌, ◌++◌, map, length, replicate, eqb, ltb}
use Rattle.xliff.specs.Bytes.{gather}
use Rattle.xliff.specs.Text.{utf8s}
use Rattle.xliff.specs.Answer.{applies, ◌then◌, Outcome, unless}
use Rattle.xliff.specs.Unit.{Head, segment, ignorable, target_items, Part, XliffUnit, head_id}
use Rattle.xliff.specs.Parse.{unit}
use Rattle.xliff.specs.Check.{table_refusal}
use Rattle.xliff.specs.Desk.{decimal, blank, line_feed}
use Rattle.sheet.specs.Column.{column_cells, fill, Column·all}

-- a row of the sheet: the cells of its five columns, without padding
pub record Row : Type 0 where
  pub position : List ℕ
  pub id : List ℕ
  pub state : List ℕ
  pub source : List ℕ
  pub target : List ℕ

-- "Positions and ids are right-aligned decimals, id 0 blank; an ignorable's state is blank."
unfoldable pub id_cells : ℕ → List ℕ
id_cells i = cond (eqb i 0) [] (decimal i)

unfoldable pub state_cells : Head → List ℕ
state_cells (segment f) = f.state ∷ []
state_cells (ignorable i) = []

-- "Later rows of a part leave the first three columns blank."
unfoldable pub later_row : List ℕ → List ℕ → Row
later_row s t = record { position = []; id = []; state = []; source = s; target = t }

-- each column wraps by itself: a column that has no more rows is blank
unfoldable pub later_rows : List (List ℕ) → List (List ℕ) → List Row
later_rows [] ts = map (later_row []) ts
later_rows (s ∷ ss) [] = later_row s [] ∷ later_rows ss []
later_rows (s ∷ ss) (t ∷ ts) = later_row s t ∷ later_rows ss ts

-- "a part has only the rows it needs, at least one"; no target and an empty target look alike
unfoldable pub part_rows : ℕ → Part → List Row
part_rows n p =
    let s = fill column_cells p.source in
    let t = fill column_cells (target_items p.target) in
    record {
      position = decimal n;
      id = id_cells (head_id p.head);
      state = state_cells p.head;
      source = s.row;
      target = t.row;
    }
    ∷ later_rows s.later t.later

-- the parts from position n on
unfoldable pub rows_from : ℕ → List Part → List Row
rows_from n [] = []
rows_from n (p ∷ ps) = part_rows n p ++ rows_from (suc n) ps

unfoldable pub sheet_rows : XliffUnit → List Row
sheet_rows u = rows_from 1 u.parts

-- padding: blanks before, blanks behind
unfoldable pub right_aligned : ℕ → List ℕ → List ℕ
right_aligned n s = replicate (n - length s) blank ++ s

unfoldable pub padded : ℕ → List ℕ → List ℕ
padded n s = s ++ replicate (n - length s) blank

-- the cells of a row, one blank between the columns
unfoldable pub row_cells : Row → List ℕ
row_cells r =
    right_aligned 3 r.position ++ (blank ∷ (right_aligned 5 r.id ++ (blank ∷ (padded 1 r.state
    ++ (blank ∷ (padded column_cells r.source ++ (blank ∷ padded column_cells r.target)))))))

-- its bytes: "Each row ends in a line feed"
unfoldable pub row_bytes : Row → List ℕ
row_bytes r = utf8s (row_cells r) ++ (line_feed ∷ [])

unfoldable pub sheet_bytes : XliffUnit → List ℕ
sheet_bytes u = gather row_bytes (sheet_rows u)

-- the operation: the table's check, "15 as elsewhere", the sheet. Document 01's limits bind tables only
unfoldable pub sheet : List ℕ → ℕ → Outcome
sheet t room =
    let s = sheet_bytes (unit t) in
    unless (table_refusal t then applies 15 (ltb room (length s))) s

unfoldable pub Sheet·all : Unit {0}
unfolding Column·all id_cells state_cells later_row later_rows part_rows rows_from sheet_rows right_aligned padded
    row_cells row_bytes sheet_bytes sheet
Sheet·all = tt
