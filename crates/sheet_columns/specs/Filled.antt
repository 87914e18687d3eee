-- Stepping stones: a row that is being filled.
use Rattle.std.specs.Prelude.{ℕ, ◌+◌, ◌-◌, ◌<◌, ◌≤◌, ◌≡◌, Bool, true, false, not, ◌&&◌, List, ◌∷◌, ◌++◌, map, length, drop, ltb}
use Rattle.xliff.specs.Text.{utf8s}
use Rattle.xliff.specs.Item.{Content, text}
use Rattle.xliff.specs.Encode as encode
use Rattle.xliff.specs.Encode.{spell}
use Rattle.xliff.specs.Good.{Allowed}
use Rattle.table.specs.Meaning.{item}
use Rattle.table.specs.declared.Item.{Item}
use Rattle.table.specs.declared.Record.{Record}
use Rattle.table.specs.declared.Record.TheVariants.{Unit as UnitStart, UnitEnd, Segment, Ignorable, Target, Text, Inline}
use Rattle.table.specs.declared.Read.{Read}
use Rattle.table.specs.declared.Read.TheVariants.{Good, Ill, Broken}
use Rattle.walk.specs.Kept.{Kept, items}
use Rattle.draft.specs.declared.Draft.{Draft}
use Rattle.draft.specs.Drafts.{Wrote}
use Rattle.sheet.specs.Column.{shown_all, column_cells}
use Rattle.sheet_columns.specs.declared.Cursor.{Cursor}
use Rattle.sheet_columns.specs.declared.Filling.{Filling}
use Rattle.sheet_columns.specs.Taken.{taken, untaken, Ends, next_row}

-- the items ahead of an offset of a content: the code points in the bytes left of a text, then records
pub record Ahead (c : List ℕ) (at left : ℕ) (xs : Content) : Type 0 where
  pub points : List ℕ
  pub records : List encode.Record
  pub behind : Bool
  pub all : xs ≡ map text points ++ items records
  pub allowed : Allowed points
  pub size : length (utf8s points) ≡ left
  pub kept : Kept behind records
  pub bytes : drop at c ≡ utf8s points ++ spell records
  pub within : at ≤ length c

abbrev pub SomeAhead : List ℕ → Cursor → Type 0
SomeAhead c k = (xs : Content) × Ahead c k.at k.left xs

-- a row can be filled on
abbrev pub Going : List ℕ → Filling → Type 0
Going c f = SomeAhead c f.next × (f.full ≡ false)

abbrev pub goes_on : Filling → ℕ → Bool
goes_on f n = not f.full && (ltb 0 f.room && ltb f.next.at n)

-- from one row begun to another: items taken, shown and written
pub record Step (c : List ℕ) (f : Filling) (draft : Draft) (r : Filling) (draft' : Draft) (xs : Content) : Type 0 where
  pub took : Content
  pub after : Content
  pub ahead : Ahead c r.next.at r.next.left after
  pub takes : taken f.room xs ≡ took ++ taken r.room after
  pub leaves : untaken f.room xs ≡ untaken r.room after
  pub cells : length (shown_all took) + r.room ≡ f.room
  pub wrote : Wrote (utf8s (shown_all took)) draft draft'
  pub ended : r.full ≡ true → Ends r.room after

-- the content goes on behind what was taken; or nothing was, and that in a row with something in it
pub record Moved (f r : Filling) : Type 0 where
  pub onward : r.full ≡ false → f.next.at < r.next.at
  pub stays : r.full ≡ true → (r.next.at ≡ f.next.at) × (r.room ≡ f.room) × (r.room < column_cells)

abbrev pub Filled : List ℕ → Filling → Draft → Filling → Draft → Type 0
Filled c f draft r draft' =
    Moved f r × ((xs : Content) → Ahead c f.next.at f.next.left xs → Step c f draft r draft' xs)

-- a text comes next, so wide with its head; or another item
pub record TextNext (c : List ℕ) (at w : ℕ) : Type 0 where
  pub wide : 4 < w
  pub fits : at + w ≤ length c
  pub then : (xs : Content) → Ahead c at 0 xs → Ahead c (at + 4) (w - 4) xs

pub record ItemAhead (c : List ℕ) (at : ℕ) (i : Item) (w : ℕ) (xs : Content) : Type 0 where
  pub others : Content
  pub all : xs ≡ item i ∷ others
  pub ahead : Ahead c (at + w) 0 others

pub record ItemNext (c : List ℕ) (at : ℕ) (i : Item) (w : ℕ) : Type 0 where
  pub wide : 0 < w
  pub fits : at + w ≤ length c
  pub then : (xs : Content) → Ahead c at 0 xs → ItemAhead c at i w xs

-- by the record that was read there: no head of a unit, a part or a target stands in a content
abbrev pub RecordNext : List ℕ → ℕ → Record → ℕ → Type 0
RecordNext c at (UnitStart u) w = ⊥
RecordNext c at UnitEnd w = ⊥
RecordNext c at (Segment f) w = ⊥
RecordNext c at (Ignorable i) w = ⊥
RecordNext c at (Target q) w = ⊥
RecordNext c at Text w = TextNext c at w
RecordNext c at (Inline i) w = ItemNext c at i w

abbrev pub ReadNext : List ℕ → ℕ → Read → Type 0
ReadNext c at (Good x w) = RecordNext c at x w
ReadNext c at Ill = ⊥
ReadNext c at (Broken b) = ⊥

-- all that fits is taken
pub record RowItems (c : List ℕ) (draft : Draft) (r : Filling) (draft' : Draft) (xs : Content) : Type 0 where
  pub cells : length (shown_all (taken column_cells xs)) + r.room ≡ column_cells
  pub wrote : Wrote (utf8s (shown_all (taken column_cells xs))) draft draft'
  pub ahead : Ahead c r.next.at r.next.left (untaken column_cells xs)

-- the next row of a column is written
pub record RowPut (c : List ℕ) (draft draft' : Draft) (next : Cursor) (xs : Content) : Type 0 where
  pub wrote : Wrote (next_row xs) draft draft'
  pub ahead : Ahead c next.at next.left (untaken column_cells xs)

abbrev pub PutRow : List ℕ → Cursor → Draft → Draft → Cursor → Type 0
PutRow c from draft draft' next =
    (from.at ≤ next.at) × (from.at < length c → from.at < next.at)
    × ((xs : Content) → Ahead c from.at from.left xs → RowPut c draft draft' next xs)
