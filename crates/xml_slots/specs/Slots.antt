-- The attributes of the subset, each a slot, and what the slots hold of a tag's attributes. Stepping stones: one name has
-- one kind of value wherever it stands.
use Rattle.std.specs.Prelude.{ℕ, suc, ◌≡◌, Bool, true, not, ◌&&◌, cond, List, [], ◌∷◌, length, get_or, eqb, ltb}
use Rattle.std.proofs.Math.Option.{Option, none, some}
use Rattle.xliff.specs.Bytes.{equal}
use Rattle.xml.specs.Words.{'id', 'order', 'copyOf', 'dataRef', 'dataRefStart', 'dataRefEnd', 'startRef', 'hex', 'state', 'canReorder', 'canResegment', 'canCopy', 'canDelete', 'canOverlap', 'isolated', 'translate'}
use Rattle.xml.specs.Tokens.{Attribute, doubled}
use Rattle.xml.specs.Attributes.{only, value_of, number, hexadecimal, letter_of, yes_no, yes_first_no, states}

-- the names, in the sequence of the slots: numbers, hexadecimal, state, canReorder, yes or no
abbrev pub slot_names : List (List ℕ)
slot_names =
    'id' ∷ 'order' ∷ 'copyOf' ∷ 'dataRef' ∷ 'dataRefStart' ∷ 'dataRefEnd' ∷ 'startRef' ∷ 'hex' ∷ 'state' ∷ 'canReorder'
    ∷ 'canResegment' ∷ 'canCopy' ∷ 'canDelete' ∷ 'canOverlap' ∷ 'isolated' ∷ 'translate' ∷ []

-- a value of the attribute of a slot: a number, or a letter of the table
unfoldable pub value_read : ℕ → List ℕ → Option ℕ
value_read k v =
    cond (ltb k 7) (number v) (cond (eqb k 7) (hexadecimal v) (cond (eqb k 8) (letter_of states v)
    (cond (eqb k 9) (letter_of yes_first_no v) (letter_of yes_no v))))

-- what a slot holds: a value below 65536; no good value; nothing
abbrev pub bad : ℕ
bad = 0x10000

abbrev pub absent : ℕ
absent = 0x20000

unfoldable pub or_bad : Option ℕ → ℕ
or_bad none = bad
or_bad (some x) = x

-- an attribute's value, as a slot tells it; a value or none
unfoldable pub good : ℕ → Option ℕ
good v = cond (ltb v bad) (some v) none

-- what the slot k holds
unfoldable pub in_slot : ℕ → Option (List ℕ) → ℕ
in_slot k none = absent
in_slot k (some v) = or_bad (value_read k v)

abbrev pub slot : ℕ → List Attribute → ℕ
slot k ats = in_slot k (value_of (get_or slot_names k []) ats)

unfoldable pub slots_of : List Attribute → List ℕ
slots_of ats =
    slot 0 ats ∷ slot 1 ats ∷ slot 2 ats ∷ slot 3 ats ∷ slot 4 ats ∷ slot 5 ats ∷ slot 6 ats ∷ slot 7 ats
    ∷ slot 8 ats ∷ slot 9 ats ∷ slot 10 ats ∷ slot 11 ats ∷ slot 12 ats ∷ slot 13 ats ∷ slot 14 ats ∷ slot 15 ats ∷ []

-- every attribute has a name of the subset, and none stands twice
unfoldable pub sound : List Attribute → Bool
sound ats = not (doubled ats) && only slot_names ats

-- the slots hold these sound attributes, so many
pub record Slotted (slots : List ℕ) (count : ℕ) (ats : List Attribute) : Type 0 where
  pub told : slots ≡ slots_of ats
  pub counted : count ≡ length ats
  pub are_sound : sound ats ≡ true

pub record SomeSlots (slots : List ℕ) (count : ℕ) : Type 0 where
  pub attributes : List Attribute
  pub slotted : Slotted slots count attributes

-- an answer by slots is that of the definition by attributes
module _ {A : Type 0} where
  unfoldable pub ByAttributes : List ℕ → ℕ → (List Attribute → A) → A → Type 0
  ByAttributes slots count f r = (ats : List Attribute) → Slotted slots count ats → r ≡ f ats

-- the place of a name among others, or how many they are
unfoldable pub index_of : List (List ℕ) → List ℕ → ℕ
index_of [] n = 0
index_of (w ∷ ws) n = cond (equal n w) 0 (suc (index_of ws n))
