-- A column of the review sheet. Document 02, order 5: "A code point takes one cell". A cell is a code point; a row of a
-- column is a list of cells, without padding.
use Rattle.std.specs.Prelude.{ℕ, ◌-◌, Bool, cond, List, [], ◌∷◌, ◌++◌, length, leb}
use Rattle.xliff.specs.Bytes.{among, gather}
use Rattle.xliff.specs.Item.{Item, Content, start, end, text, character, standalone, isolated, pair, annotation_start, annotation_end}
use Rattle.xliff.specs.Desk.{decimal, Desk·all}

abbrev pub hash : ℕ
hash = 35

abbrev pub full_stop : ℕ
full_stop = 46

abbrev pub left_brace : ℕ
left_brace = 123

abbrev pub right_brace : ℕ
right_brace = 125

-- "tab, line feed and return show as a full stop"
unfoldable pub cell : ℕ → ℕ
cell c = cond (among c (9 ∷ 10 ∷ 13 ∷ [])) full_stop c

-- "a start {7, an end 7}"
unfoldable pub start_form : ℕ → List ℕ
start_form i = left_brace ∷ decimal i

unfoldable pub end_form : ℕ → List ℕ
end_form i = decimal i ++ (right_brace ∷ [])

-- The shown form of an item: "CP as #. A standalone code of id 7 shows as {7}, a start {7, an end 7}; isolated ones and
-- annotations likewise."
unfoldable pub shown : Item → List ℕ
shown (text c) = cell c ∷ []
shown (character c) = hash ∷ []
shown (standalone f) = left_brace ∷ end_form f.id
shown (isolated start f) = start_form f.id
shown (isolated end f) = end_form f.id
shown (pair start w f) = start_form f.id
shown (pair end w f) = end_form f.id
shown (annotation_start w i t) = start_form i
shown (annotation_end w i) = end_form i

unfoldable pub shown_all : Content → List ℕ
shown_all xs = gather shown xs

-- "source 33, target 33"
abbrev pub column_cells : ℕ
column_cells = 33

-- What items fill: the row begun, from there on, and the rows after it
pub record Filled : Type 0 where
  pub row : List ℕ
  pub later : List (List ℕ)

-- an item is shown in the row begun, or begins the next one
unfoldable pub in_row : Item → Filled → Filled
in_row x f = record { row = shown x ++ f.row; later = f.later }

unfoldable pub in_next_row : Item → Filled → Filled
in_next_row x f = record { row = []; later = (shown x ++ f.row) ∷ f.later }

-- "A marker that doesn't fit goes to the next row whole." Where `left` cells of the row are left: whether an item fits,
-- and the cells left behind it, in this row or in the next
unfoldable pub fits : ℕ → Item → Bool
fits left x = leb (length (shown x)) left

unfoldable pub left_behind : ℕ → Item → ℕ
left_behind left x = cond (fits left x) left column_cells - length (shown x)

-- "A column's row takes all that fits": item by item
unfoldable pub fill : ℕ → Content → Filled
fill left [] = record { row = []; later = [] }
fill left (x ∷ xs) =
    let f = fill (left_behind left x) xs in
    cond (fits left x) (in_row x f) (in_next_row x f)

-- the rows of a column: at least one
unfoldable pub column : Content → List (List ℕ)
column xs = let f = fill column_cells xs in f.row ∷ f.later

unfoldable pub Column·all : Unit {0}
unfolding Desk·all cell start_form end_form shown shown_all in_row in_next_row fits left_behind fill column
Column·all = tt
