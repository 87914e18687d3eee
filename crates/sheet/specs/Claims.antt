-- What order 5 claims of the sheet. Statements; their proofs are in proofs/.
use Rattle.std.specs.Prelude.{ℕ, ◌+◌, ◌≤◌, ◌<◌, max, ◌≡◌, false, List, [], ◌∷◌, ◌++◌, map, length, take, drop, replicate}
use Rattle.xliff.specs.Bytes.{Bytes, gather, among}
use Rattle.xliff.specs.Text.{utf8s}
use Rattle.xliff.specs.Answer.{result}
use Rattle.xliff.specs.Item.{Content}
use Rattle.xliff.specs.Unit.{Part, head_id, target_items, source_sequence}
use Rattle.xliff.specs.Parse.{unit}
use Rattle.xliff.specs.Check.{Valid}
use Rattle.xliff.specs.Desk.{decimal, line_feed}
use Rattle.xliff.specs.Good.{Each}
use Rattle.sheet.specs.Column.{column_cells, shown, shown_all, column}
use Rattle.sheet.specs.Sheet.{Row, id_cells, state_cells, part_rows, sheet_rows, right_aligned, padded, row_cells, sheet}

-- the items of some rows, row after row
abbrev pub joined : List Content → Content
joined yss = gather (λ (ys : Content). ys) yss

-- rows that have room for the shown forms of their items
abbrev pub Within : List Content → Type 0
Within yss = Each (λ (ys : Content). length (shown_all ys) ≤ column_cells) yss

-- "A column's row takes all that fits": the first item of the next row would not have fitted
abbrev pub Full : Content → List Content → Type 0
Full ys [] = Unit {0}
Full ys ([] ∷ r) = ⊥
Full ys ((z ∷ zs) ∷ r) = (column_cells < length (shown_all ys) + length (shown z)) × Full (z ∷ zs) r

-- A column: its rows are made of the items, in order, the shown form of each whole in one row
pub record ColumnOf (xs : Content) : Type 0 where
  -- the items of the first row, and of each later one
  pub first : Content
  pub later : List Content
  pub in_order : first ++ joined later ≡ xs
  -- "A marker that doesn't fit goes to the next row whole"
  pub whole : column xs ≡ map shown_all (first ∷ later)
  pub within : Within (first ∷ later)
  pub full : Full first later
  -- the cells, read down, are the items' shown forms in order
  pub down : gather (λ (row : List ℕ). row) (column xs) ≡ shown_all xs
  -- "only the rows it needs, at least one": no other way to put the items into rows, in order and each whole, takes
  -- fewer
  pub fewest : (zs : Content) (zss : List Content) → zs ++ joined zss ≡ xs → Within (zs ∷ zss)
      → length (column xs) ≤ length (zs ∷ zss)

-- A part: its two columns side by side, as many rows as the longer one has
pub record PartOf (n : ℕ) (p : Part) : Type 0 where
  pub count : length (part_rows n p) ≡ max (length (column p.source)) (length (column (target_items p.target)))
  pub source_blank : ℕ
  pub source : map (λ (r : Row). r.source) (part_rows n p) ≡ column p.source ++ replicate source_blank []
  pub target_blank : ℕ
  pub target : map (λ (r : Row). r.target) (part_rows n p)
      ≡ column (target_items p.target) ++ replicate target_blank []
  -- "Later rows of a part leave the first three columns blank."
  pub later : ℕ
  pub positions : map (λ (r : Row). r.position) (part_rows n p) ≡ decimal n ∷ replicate later []
  pub ids : map (λ (r : Row). r.id) (part_rows n p) ≡ id_cells (head_id p.head) ∷ replicate later []
  pub states : map (λ (r : Row). r.state) (part_rows n p) ≡ state_cells p.head ∷ replicate later []

-- where the columns of a row stand: "part position 3, id 5, state 1, source 33, target 33, one blank between columns"
pub record Columns (r : Row) : Type 0 where
  pub position : take 3 (row_cells r) ≡ right_aligned 3 r.position
  pub id : take 5 (drop 4 (row_cells r)) ≡ right_aligned 5 r.id
  pub state : take 1 (drop 10 (row_cells r)) ≡ padded 1 r.state
  pub source : take column_cells (drop 12 (row_cells r)) ≡ padded column_cells r.source
  pub target : drop 46 (row_cells r) ≡ padded column_cells r.target

-- The sheet of a valid table
pub record SheetOf (t : List ℕ) : Type 0 where
  -- "Each row .. counts 79 cells"
  pub cells : Each (λ (r : Row). length (row_cells r) ≡ 79) (sheet_rows (unit t))
  pub columns : Each Columns (sheet_rows (unit t))
  -- "Each row ends in a line feed": and has no other, so that the lines of the sheet are its rows
  pub no_feed : Each (λ (r : Row). among line_feed (row_cells r) ≡ false) (sheet_rows (unit t))
  -- "the cells of the source and target columns, read down without padding, are the items' shown forms in order"
  pub source : gather (λ (r : Row). r.source) (sheet_rows (unit t)) ≡ shown_all (source_sequence (unit t).parts)
  pub target : gather (λ (r : Row). r.target) (sheet_rows (unit t))
      ≡ gather (λ (p : Part). shown_all (target_items p.target)) (unit t).parts
  -- and an accepted call gives these rows, each with its line feed
  pub bytes : (room : ℕ) (s : List ℕ) → sheet t room ≡ result s
      → (s ≡ gather (λ (r : Row). utf8s (row_cells r ++ (line_feed ∷ []))) (sheet_rows (unit t))) × (length s ≤ room)

unfoldable pub Order5Columns : Type 0
Order5Columns = (xs : Content) → ColumnOf xs

unfoldable pub Order5Parts : Type 0
Order5Parts = (n : ℕ) (p : Part) → PartOf n p

unfoldable pub Order5 : Type 0
Order5 = (t : List ℕ) → Bytes t → Valid t → SheetOf t
