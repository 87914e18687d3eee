-- The inline elements, by what their slots tell.
use Prim.Native.Nat.{ℕ, ◌<◌}
use mathlib.Core.Path.{◌≡◌, refl, sym, ◌∙◌}
use mathlib.Core.Bool.{Bool, true, false, cond}
use mathlib.Core.List.{List, [], ◌∷◌}
use mathlib.Core.Option.{Option, none, some}
use native.Mathlib.Omega.{arith}
use lib.ListN.{get_or}
use lib.Dec.{eqb}
use Rattle.std.specs.Prelude.{Result, OkIff}
use Rattle.std.specs.Result.{result_ok}
use Rattle.xliff.specs.Bytes.{'N', 'Y', among}
use Rattle.xliff.specs.Item as xliff
use Rattle.xliff.specs.Item.{start, end, character}
use Rattle.xml.specs.Words.{'id', 'startRef'}
use Rattle.xml.specs.Tokens.{Attribute}
use Rattle.xml.specs.Attributes.{with, only, value_of, hexadecimal, choice}
use Rattle.xml.specs.Elements as xml
use Rattle.xml.specs.Elements.{single, code_names, read_cp, isolated_letter, read_sc, read_ec}
use Rattle.xml_slots.specs.Slots.{bad, slots_of, ByAttributes}
use Rattle.xml_elements.specs.Reading.{name_of, words_of, value_meaning, BySlots, half_id, apart, HalfId}
use Rattle.xml_elements.specs.Meanings.{half_fields, half_item}
use Rattle.xml_elements.proofs.SlotLaws.{hexadecimal_told, value_is}

cond_none : {A : Type 0} (o : Bool) → none ≡ cond {A = Option A} o none none
cond_none true = refl
cond_none false = refl

module _ {A B : Type 0} where
  with_outside : (o : Bool) (a : Option A) (f : A → Option B) → with (cond o a none) f ≡ cond o (with a f) none
  unfolding with
  with_outside true a f = refl
  with_outside false a f = refl

  with_with : {C : Type 0} (a : Option A) (f : A → Option B) (g : B → Option C)
      → with (with a f) g ≡ with a (λ x. with (f x) g)
  unfolding with
  with_with none f g = refl
  with_with (some x) f g = refl

-- <cp>: its digits, from the slot 7
pub cp_is : (ats : List Attribute)
    → read_cp ats
    ≡ cond (only (name_of 7 ∷ []) ats) (with (with (value_of (name_of 7) ats) hexadecimal) (λ c. some (single (character c))))
    none
unfolding read_cp
cp_is ats = rw (with_with (value_of (name_of 7) ats) hexadecimal (λ c. some (single (character c)))) refl

pub digits_read : {E : Type 0} (slots : List ℕ) (ats : List Attribute) → slots ≡ slots_of ats → (r : Result ℕ E)
    → OkIff r (get_or slots 7 0 < bad) (get_or slots 7 0) → value_meaning (result_ok r) ≡ with (value_of (name_of 7) ats) hexadecimal
digits_read slots ats told r made =
    value_is bad (get_or slots 7 0) (omega arith) (λ p. p) r made ∙ sym (hexadecimal_told slots ats told)

-- <sc>, <ec>: isolated, then the fields
half_name : (i : ℕ) → name_of (half_id i) ≡ cond (eqb i 'Y') 'id' 'startRef'
half_name i = by (eqb i 'Y')
  where
    by : (b : Bool) → name_of (cond b 0 6) ≡ cond b 'id' 'startRef'
    by true = refl
    by false = refl

module _ (slots : List ℕ) (count : ℕ) where
  module _ (isolated_told : BySlots slots (choice (name_of 14) (words_of 14) 'N') none) where
    lacking : (ats : List Attribute) → slots ≡ slots_of ats → isolated_letter ats ≡ none
    unfolding BySlots isolated_letter words_of
    lacking ats told = sym (isolated_told ats told)

    pub sc_none : ByAttributes slots count read_sc none
    unfolding ByAttributes read_sc with
    sc_none ats s = rw (lacking ats s.told) (cond_none (only ('id' ∷ code_names) ats))

    pub ec_none : ByAttributes slots count read_ec none
    unfolding ByAttributes read_ec with
    ec_none ats s = rw (lacking ats s.told) refl

  module _ (i : ℕ) (isolated_told : BySlots slots (choice (name_of 14) (words_of 14) 'N') (some i)) (f : Option xliff.Fields) where
    there : (ats : List Attribute) → slots ≡ slots_of ats → isolated_letter ats ≡ some i
    unfolding BySlots isolated_letter words_of
    there ats told = sym (isolated_told ats told)

    abbrev made : xliff.Half → xliff.Fields → Option xml.Inline
    made side x = some (single (half_item (eqb i 'Y') side x))

    pub sc_is : ByAttributes slots count (half_fields (name_of 0)) f → ByAttributes slots count read_sc (with f (made start))
    unfolding ByAttributes read_sc half_fields half_item with
    sc_is told ats s = rw (told ats s, there ats s.told) (with_outside (only ('id' ∷ code_names) ats) _ (made start))

    pub ec_is : ByAttributes slots count (half_fields (name_of (half_id i))) f
        → ByAttributes slots count read_ec (with f (made end))
    unfolding ByAttributes read_ec half_fields half_item with
    ec_is told ats s =
        let name : List ℕ = cond (eqb i 'Y') 'id' 'startRef' in
        rw (told ats s, half_name i, there ats s.told) (with_outside (only (name ∷ code_names) ats) _ (made end))

pub half_id_good : (i : ℕ) → HalfId (half_id i)
unfolding apart among
half_id_good i = by (eqb i 'Y')
  where
    by : (b : Bool) → HalfId (cond b 0 6)
    by true = (refl, omega arith)
    by false = (refl, omega arith)
