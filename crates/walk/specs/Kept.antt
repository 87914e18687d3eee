-- Records that stand in a content: inline records and texts, good, no text directly behind a text. The table's check
-- gives them (`Table.Walked`).
use Rattle.xliff.specs.Good.{Allowed, GoodItem, GoodHead}
use Rattle.std.specs.Prelude.{ℕ, ◌<◌, ◌≡◌, Bool, true, false, List, [], ◌∷◌, length, drop}
use Rattle.xliff.specs.Text.{utf8s}
use Rattle.xliff.specs.Item.{Item, Content}
use Rattle.xliff.specs.Unit.{Head}
use Rattle.xliff.specs.Encode.{Record, part_head, target_head, text_run, inline, content_records, spell}
use Rattle.xliff.specs.Parse.{reading}

-- the first argument: whether they stand directly behind a text
pub data Kept : Bool → List Record → Type 0 where
  kept_end : {a : Bool} → Kept a []
  kept_item : {a : Bool} {x : Item} {rs : List Record} → GoodItem x → Kept false rs → Kept a (inline x ∷ rs)
  kept_text : {d : ℕ} {ds : List ℕ} {rs : List Record} → Allowed (d ∷ ds) → length (utf8s (d ∷ ds)) < 65536 → Kept true rs
      → Kept false (text_run (d ∷ ds) ∷ rs)

-- the bytes c are those of the records
abbrev pub Of : List ℕ → List Record → Type 0
Of c rs = Kept false rs × (spell rs ≡ c)

-- the bytes c are those of the content xs
abbrev pub Holds : List ℕ → Content → Type 0
Holds c xs = Of c (content_records xs)

-- the items of records
abbrev pub items : List Record → Content
items rs = (reading rs).items

-- the bytes are those of a content
abbrev pub Fair : List ℕ → Type 0
Fair c = (rs : List Record) × Of c rs

-- one inline record that is good
pub data Inline : Record → Type 0 where
  an_item : {x : Item} → GoodItem x → Inline (inline x)
  a_text : {d : ℕ} {ds : List ℕ} → Allowed (d ∷ ds) → length (utf8s (d ∷ ds)) < 65536 → Inline (text_run (d ∷ ds))

-- one record of a part that is good, with an order that can rise
pub data InPart : Record → Type 0 where
  head_in : {h : Head} → GoodHead h → InPart (part_head h)
  target_in : {q : ℕ} → q < 65535 → InPart (target_head q)
  item_in : {x : Item} → GoodItem x → InPart (inline x)
  text_in : {d : ℕ} {ds : List ℕ} → Allowed (d ∷ ds) → length (utf8s (d ∷ ds)) < 65536 → InPart (text_run (d ∷ ds))

-- the records rs, of which F holds, stand in t from the offset at
pub record RestOf (F : List Record → Type 0) (t : List ℕ) (at : ℕ) (rs : List Record) : Type 0 where
  pub kept : F rs
  pub bytes : spell rs ≡ drop at t

-- those of a content, behind a text or not
abbrev pub InContent : List Record → Type 0
InContent rs = (a : Bool) × Kept a rs

abbrev pub Rest : List ℕ → ℕ → List Record → Type 0
Rest c at rs = RestOf InContent c at rs
