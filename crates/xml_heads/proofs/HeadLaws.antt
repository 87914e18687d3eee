-- The heads of parts by their names, and the orders of targets.
use Prim.Native.Nat.{ℕ}
use mathlib.Core.Path.{◌≡◌, refl, sym, ◌∙◌}
use mathlib.Core.Bool.{Bool, true, false, not, cond}
use mathlib.Core.List.{List, [], ◌∷◌}
use mathlib.Core.Option.{Option, none, some}
use native.Mathlib.Omega.{arith}
use lib.ListN.{get_or}
use lib.Dec.{eqb}
use borrow.Author.Tests.{eq-eqb, ne_eqb, not-true, not-false}
use Rattle.std.specs.Prelude.{Option as RustOption, Some, None}
use Rattle.xliff.specs.Bytes.{equal}
use Rattle.xliff.specs.Unit as xliff
use Rattle.xml.specs.Words.{'segment', 'ignorable'}
use Rattle.xml.specs.Tokens.{Attribute}
use Rattle.xml.specs.Attributes.{with, only, value_of, required}
use Rattle.xml.specs.Elements.{segment_head, ignorable_head, part_of_name, target_order}
use Rattle.xml_slots.specs.Slots.{absent, in_slot, ByAttributes, Slotted}
use Rattle.xml_elements.specs.Reading.{name_of, names_of, BySlots, value_meaning}
use Rattle.xml_heads.specs.Meanings.{unit_meaning}
use Rattle.xml_elements.proofs.SlotLaws.{is_there, told_at}

-- the opening of a unit has its letter
pub opening_is : (r : RustOption ℕ) → unit_meaning r ≡ with (value_meaning r) (λ c. some (record { can_resegment = c }))
unfolding with
opening_is (Some c) = refl
opening_is None = refl

-- the part by its name
module _ (n slots : List ℕ) (count : ℕ) (r : Option xliff.Head) where
  pub is_segment : equal n 'segment' ≡ true → ByAttributes slots count segment_head r
      → ByAttributes slots count (part_of_name n) r
  unfolding ByAttributes part_of_name
  is_segment e told ats s = rw e (told ats s)

  pub is_ignorable : equal n 'segment' ≡ false → equal n 'ignorable' ≡ true → ByAttributes slots count ignorable_head r
      → ByAttributes slots count (part_of_name n) r
  unfolding ByAttributes part_of_name
  is_ignorable other e told ats s = rw (other, e) (told ats s)

pub is_no_part : (n slots : List ℕ) (count : ℕ) → equal n 'segment' ≡ false → equal n 'ignorable' ≡ false
    → ByAttributes slots count (part_of_name n) none
unfolding ByAttributes part_of_name
is_no_part n slots count other neither ats s = rw (other, neither) refl

-- <target>: its order, absent or there
order_by : (position : ℕ) (v : Option (List ℕ)) (r : Option ℕ)
    → elim v [ none ↦ some position | some x ↦ r ] ≡ cond (eqb (in_slot 1 v) absent) (some position) r
unfolding in_slot
order_by position none r = refl
order_by position (some x) r = rw (is_there 1 x) refl

module _ (slots : List ℕ) (count : ℕ) (o : Bool) (only_told : ByAttributes slots count (only (names_of (1 ∷ []))) o)
    (position : ℕ) where
  order_is : (ats : List Attribute) → Slotted slots count ats
      → target_order position ats
      ≡ cond o (cond (eqb (get_or slots 1 0) absent) (some position) (required (name_of 1) ats)) none
  unfolding ByAttributes target_order
  order_is ats s =
      rw (
        ← only_told ats s,
        told_at slots ats s.told 1 (omega arith),
        order_by position (value_of (name_of 1) ats) (required (name_of 1) ats),
      ) refl

  pub order_other : not o ≡ true → ByAttributes slots count (target_order position) none
  unfolding ByAttributes
  order_other h ats s = sym (order_is ats s ∙ rw (not-true o h) refl)

  module _ (h : not o ≡ false) where
    pub order_absent : get_or slots 1 0 ≡ absent → ByAttributes slots count (target_order position) (some position)
    unfolding ByAttributes
    order_absent e ats s = sym (order_is ats s ∙ rw (not-false o h, eq-eqb (get_or slots 1 0) absent e) refl)

    pub order_there : (get_or slots 1 0 ≡ absent → ⊥) → (r : Option ℕ) → BySlots slots (required (name_of 1)) r
        → ByAttributes slots count (target_order position) r
    unfolding ByAttributes BySlots
    order_there there r told ats s =
        told ats s.told
        ∙ sym (order_is ats s ∙ rw (not-false o h, ne_eqb (get_or slots 1 0) absent there) refl)
