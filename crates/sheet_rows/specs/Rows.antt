-- Stepping stones: the rows of a part, written one after the other.
use Rattle.std.specs.Prelude.{ℕ, ◌+◌, ◌<◌, ◌≤◌, ◌≡◌, Bool, true, ◌||◌, cond, List, [], ◌∷◌, ◌++◌, length, ltb}
use Rattle.xliff.specs.Bytes.{gather}
use Rattle.xliff.specs.Item.{Content}
use Rattle.xliff.specs.Unit.{Head, segment, ignorable, Part, head_id}
use Rattle.xliff.specs.Desk.{decimal, blank, line_feed}
use Rattle.table.specs.Meaning.{segment_meaning}
use Rattle.table.specs.declared.Record.{Record}
use Rattle.table.specs.declared.Record.TheVariants.{Unit as UnitStart, UnitEnd, Segment, Ignorable, Target, Text, Inline}
use Rattle.table.specs.declared.Read.{Read}
use Rattle.table.specs.declared.Read.TheVariants.{Good, Ill, Broken}
use Rattle.walk.specs.Kept.{Holds}
use Rattle.part_at.specs.declared.PartPlace.{PartPlace}
use Rattle.part_at.specs.Stands.{PartStands}
use Rattle.draft.specs.declared.Draft.{Draft}
use Rattle.draft.specs.Drafts.{Wrote}
use Rattle.sheet.specs.Column.{column_cells}
use Rattle.sheet.specs.Sheet.{Row, id_cells, state_cells, later_rows, part_rows, right_aligned, padded, row_bytes}
use Rattle.sheet_columns.specs.declared.Cursor.{Cursor}
use Rattle.sheet_columns.specs.Taken.{untaken, next_row, rows_left}
use Rattle.sheet_columns.specs.Filled.{Ahead}
use Rattle.sheet_rows.specs.declared.Columns.{Columns}

-- the first three columns of a row, with a blank behind each
unfoldable pub margin : List ℕ → List ℕ → List ℕ → List ℕ
margin p i s = right_aligned 3 p ++ (blank ∷ (right_aligned 5 i ++ (blank ∷ (padded 1 s ++ (blank ∷ [])))))

unfoldable pub head_margin : ℕ → Head → List ℕ
head_margin n h = margin (decimal n) (id_cells (head_id h)) (state_cells h)

-- the other two, and the line feed
unfoldable pub columns : Content → Content → List ℕ
columns xs ys = next_row xs ++ (blank ∷ (next_row ys ++ (line_feed ∷ [])))

-- the later rows of a part, of the items that are left for them
abbrev pub rest_rows : Content → Content → List Row
rest_rows xs ys = later_rows (rows_left xs) (rows_left ys)

-- the margin of a head is written
abbrev pub HeadMargin : ℕ → Record → Draft → Draft → Type 0
HeadMargin n (UnitStart u) draft draft' = Unit {0}
HeadMargin n UnitEnd draft draft' = Unit {0}
HeadMargin n (Segment f) draft draft' = Wrote (head_margin n (segment (segment_meaning f))) draft draft'
HeadMargin n (Ignorable i) draft draft' = Wrote (head_margin n (ignorable i)) draft draft'
HeadMargin n (Target q) draft draft' = Unit {0}
HeadMargin n Text draft draft' = Unit {0}
HeadMargin n (Inline i) draft draft' = Unit {0}

abbrev pub ReadMargin : ℕ → Read → Draft → Draft → Type 0
ReadMargin n (Good x w) draft draft' = HeadMargin n x draft draft'
ReadMargin n Ill draft draft' = Unit {0}
ReadMargin n (Broken b) draft draft' = Unit {0}

abbrev pub goes_on : Columns → ℕ → ℕ → Bool
goes_on c n m = ltb c.source.at n || ltb c.target.at m

-- a column goes on behind its row
pub record Onward (c : List ℕ) (from next : Cursor) : Type 0 where
  pub forth : from.at ≤ next.at
  pub further : from.at < length c → from.at < next.at

-- a row of both columns is written, of these items
pub record ColumnsPut (source target : List ℕ) (draft : Draft) (r : Columns) (draft' : Draft) (xs ys : Content) : Type 0
  where
    pub wrote : Wrote (columns xs ys) draft draft'
    pub source_ahead : Ahead source r.source.at r.source.left (untaken column_cells xs)
    pub target_ahead : Ahead target r.target.at r.target.left (untaken column_cells ys)

abbrev pub PutColumns : List ℕ → List ℕ → Columns → Draft → Columns → Draft → Type 0
PutColumns source target c draft r draft' =
    Onward source c.source r.source × Onward target c.target r.target
    × ((xs ys : Content) → Ahead source c.source.at c.source.left xs → Ahead target c.target.at c.target.left ys
    → ColumnsPut source target draft r draft' xs ys)

-- the rows of two contents side by side, behind the margin of the first
unfoldable pub content_rows : Content → Content → List ℕ
content_rows xs ys =
    columns xs ys ++ gather row_bytes (rest_rows (untaken column_cells xs) (untaken column_cells ys))

abbrev pub PutContents : List ℕ → List ℕ → Draft → Draft → Type 0
PutContents source target draft draft' =
    (xs ys : Content) → Holds source xs → Holds target ys → Wrote (content_rows xs ys) draft draft'

-- all rows of a part
abbrev pub PutPart : List ℕ → ℕ → PartPlace → Draft → Draft → Type 0
PutPart t n place draft draft' =
    (b : List Part) (p : Part) (a : List Part) → PartStands t b p a place
    → Wrote (gather row_bytes (part_rows n p)) draft draft'
