-- Attributes read from their slots. Stepping stones.
use Rattle.std.specs.Prelude.{ℕ, ◌≤◌, ◌<◌, ◌≡◌, Bool, true, not, ◌&&◌, cond, List, [], ◌∷◌, map, get_or, eqb, ltb, Option as RustOption, Some, None}
use Rattle.std.proofs.Math.Option.{Option, none, some}
use Rattle.xliff.specs.Bytes.{'Y', among}
use Rattle.xliff.specs.Item.{Fields}
use Rattle.xml.specs.Tokens.{Attribute}
use Rattle.xml.specs.Attributes.{Word, yes_no, yes_first_no, states, code_fields}
use Rattle.xml_slots.specs.Slots.{slot_names, slots_of}

-- the name of a slot
abbrev pub name_of : ℕ → List ℕ
name_of k = get_or slot_names k []

abbrev pub names_of : List ℕ → List (List ℕ)
names_of ks = map name_of ks

-- the slots of numbers; those of letters, and the words of these
abbrev pub NumberSlot : ℕ → Type 0
NumberSlot k = k < 7

abbrev pub LetterSlot : ℕ → Type 0
LetterSlot k = (8 ≤ k) × (k < 16)

unfoldable pub words_of : ℕ → List Word
words_of k = cond (eqb k 8) states (cond (eqb k 9) yes_first_no yes_no)

-- slots, none of them twice
unfoldable pub apart : List ℕ → Bool
apart [] = true
apart (k ∷ ks) = ltb k 16 && (not (among k ks) && apart ks)

-- the slots hold some attributes
abbrev pub Told : List ℕ → Type 0
Told slots = (ats : List Attribute) × (slots ≡ slots_of ats)

-- an answer by slots is that of the definition by attributes, however many these are
module _ {A : Type 0} where
  unfoldable pub BySlots : List ℕ → (List Attribute → A) → A → Type 0
  BySlots slots f r = (ats : List Attribute) → slots ≡ slots_of ats → r ≡ f ats

-- a number or a letter, if there is one
abbrev pub value_meaning : RustOption ℕ → Option ℕ
value_meaning (Some v) = some v
value_meaning None = none

-- the fields of a code whose id and dataRef are in these slots, with this canOverlap
abbrev pub fields_of_slots : ℕ → ℕ → Option ℕ → List Attribute → Option Fields
fields_of_slots id ref = code_fields (name_of id) (name_of ref)

-- the slots of sc and ec: that of the id, copyOf, dataRef, canCopy, canDelete, canOverlap, canReorder, isolated
abbrev pub half_slots : ℕ → List ℕ
half_slots k = k ∷ 2 ∷ 3 ∷ 11 ∷ 12 ∷ 13 ∷ 9 ∷ 14 ∷ []

abbrev pub HalfId : ℕ → Type 0
HalfId k = (apart (half_slots k) ≡ true) × NumberSlot k

-- the slot of the id of an ec, by its isolated: id or startRef
abbrev pub half_id : ℕ → ℕ
half_id i = cond (eqb i 'Y') 0 6
