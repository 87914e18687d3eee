-- Markers, the items with a class, and the markers at the offsets of a table.
use Rattle.std.specs.Prelude.{ℕ, zero, suc, ◌≡◌, Bool, true, false, not, List, [], ◌++◌, map, drop, eqb}
use Rattle.xliff.specs.Bytes.{keep}
use Rattle.xliff.specs.Item.{Item, Content, text, class}
use Rattle.xliff.specs.Encode.{Record, opening, closing, part_head, target_head, text_run, inline, ill_text, broken, unit_records}
use Rattle.xliff.specs.Parse.{read, unit}
use Rattle.xliff.specs.Sequences.{Placed}
use Rattle.places.specs.Found.{marks_found}

-- the items with a class
unfoldable pub is_marked : Item → Bool
is_marked x = not (eqb (class x) 0)

unfoldable pub only_markers : Content → Content
only_markers xs = keep is_marked xs

-- A test that texts and characters do not bear on, and the same test where there are markers alone
pub record OnMarks (bad bad' : Content → Item → Content → Bool) : Type 0 where
  pub unmarked : (before : Content) (x : Item) (after : Content) → is_marked x ≡ false → bad before x after ≡ false
  pub alone : (before : Content) (x : Item) (after : Content) → is_marked x ≡ true → bad before x after ≡ bad' (only_markers before) x (only_markers after)

-- The item at an offset
unfoldable pub item_in : Record → Item
item_in (opening c) = text 0
item_in closing = text 0
item_in (part_head h) = text 0
item_in (target_head q) = text 0
item_in (text_run cs) = text 0
item_in (inline x) = x
item_in ill_text = text 0
item_in (broken b) = text 0

unfoldable pub item_at : List ℕ → ℕ → Item
item_at t o = item_in (read (drop o t))

unfoldable pub placed_at : List ℕ → List ℕ → List Placed
placed_at t offsets = map (λ o. record { item = item_at t o; at = o }) offsets

-- the offsets of the markers of the targets, the n orders after q
unfoldable pub target_offsets : List ℕ → ℕ → ℕ → List ℕ
target_offsets t q zero = []
target_offsets t q (suc n) = map (λ (p : Placed). p.at) (marks_found false (suc q) false 0 (unit_records (unit t))) ++ target_offsets t (suc q) n
