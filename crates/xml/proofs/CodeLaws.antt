-- The elements of cp, ph, sc, ec and pc are read as their items.
use Prim.Native.Nat.{ℕ, ◌/◌, ◌%◌, ◌<◌}
use mathlib.Core.Path.{◌≡◌, refl, sym, ap, ◌∙◌}
use mathlib.Core.Bool.{Bool, true, false, ◌||◌, cond, false≢true, true≢false}
use mathlib.Core.List.{List, [], ◌∷◌, ◌++◌}
use mathlib.Core.Option.{some}
use lib.Dec.{eqb, ltb, leb}
use borrow.Author.Tests.{eqb-true, ltb-false, le-leb, leb-false}
use Rattle.xliff.specs.Bytes.{'-', 'N', 'Y', equal, any, among}
use Rattle.xliff.specs.Text.{between, xml_allows}
use Rattle.xliff.specs.Item.{Item, Content, Fields, start, end, form_P, form_S, character, standalone, isolated, pair}
use Rattle.xliff.specs.Parse.{bad_item}
use Rattle.xliff.specs.Desk.{hex_byte}
use Rattle.xliff.proofs.lists.Tests.{or_left, or_right}
use Rattle.xml.specs.Words.{'cp', 'ph', 'pc', 'sc', 'ec', 'id', 'hex', 'copyOf', 'dataRef', 'dataRefStart', 'dataRefEnd', 'startRef', 'canOverlap', 'isolated', 'yes', 'no', Words·all}
use Rattle.xml.specs.Tokens.{Attribute, doubled}
use Rattle.xml.specs.Attributes.{code_fields, with, named, only, value_of, yes_no, letter_of, choice}
use Rattle.xml.specs.Elements.{single, nested, read_cp, read_ph, end_of_pc, read_pc, isolated_letter, read_sc, read_ec, inline_of_name}
use Rattle.xml.specs.Write.{short_tag, attribute, word_attribute, hints, ph_attributes, half_attributes, pc_attributes, item_text, pending, first_data}
use Rattle.xml.proofs.LetterLaws.{is_letter, letters, plain}
use Rattle.xml.proofs.TagLaws.{good_name, good_attributes}
use Rattle.xml.proofs.NumberLaws.{hexadecimal_back, hexadecimal_plain}
use Rattle.xml.proofs.AttributeLaws.{Half, optional_shown, choice_word, yes_no_back, good_one, good_number, good_unless_zero, ph_read, half_id_read, half_ref_read, pc_read}
use Rattle.xml.proofs.FieldLaws.{Numbers, Letters, code_back, Single, Opening, good_hints}

-- cp
forbidden_small : (c : ℕ) → bad_item (character c) ≡ false → c < 65536
unfolding bad_item xml_allows between
forbidden_small c e = by (leb 0x10000 c) refl
  where
    high : ltb 0x10FFFF c ≡ false
    high = or_left _ _ e

    out : between 0x10000 c 0x10FFFF ≡ false
    out =
        or_right (eqb c 9 || eqb c 10 || eqb c 13 || between 0x20 c 0xD7FF || between 0xE000 c 0xFFFD) _
        (or_right (ltb 0x10FFFF c) (xml_allows c) e)

    by : (b : Bool) → leb 0x10000 c ≡ b → c < 65536
    by true p = let h = ltb-false 0x10FFFF c high in absurd (true≢false (sym (le-leb c 0x10FFFF h) ∙ (rw p at out)))
    by false p = leb-false 0x10000 c p

pub cp_single : (c : ℕ) (after : Content) → bad_item (character c) ≡ false → Single (character c) (item_text (character c) after)
unfolding item_text good_name is_letter letters between Words·all inline_of_name equal read_cp only named any value_of with
    doubled good_attributes
cp_single c after e =
    let h = forbidden_small c e in
    record {
      name = 'cp';
      attributes = attribute 'hex' (hex_byte (c / 256) ++ hex_byte (c % 256));
      is_text = refl;
      name_good = refl;
      good = good_one 'hex' (hex_byte (c / 256) ++ hex_byte (c % 256)) [] refl (hexadecimal_plain c h) refl;
      none_twice = refl;
      is_read = rw (hexadecimal_back c h);
    }

-- ph
ph_inline : (f : Fields) → Numbers f → Letters ('-' ∷ []) f → read_ph (ph_attributes f) ≡ some (single (standalone f))
unfolding read_ph with
ph_inline f n l =
    rw (
      (ph_read f).no_other,
      code_back 'id' 'dataRef' ('-' ∷ []) (some '-') (ph_attributes f) f (ph_read f) n l
          (ap some (sym (hyphen f.can_overlap l.can_overlap))),
    )
  where
    hyphen : (o : ℕ) → among o ('-' ∷ []) ≡ true → o ≡ '-'
    hyphen o e = by (eqb o '-') refl (unfold among in e)
      where
        by : (b : Bool) → eqb o '-' ≡ b → b || false ≡ true → o ≡ '-'
        by true p k = eqb-true o '-' p
        by false p k = absurd (false≢true k)

pub ph_single : (f : Fields) (after : Content) → Numbers f → Letters ('-' ∷ []) f
    → Single (standalone f) (item_text (standalone f) after)
unfolding item_text good_name is_letter letters between Words·all inline_of_name equal ph_attributes hints word_attribute
    good_attributes
ph_single f after n l =
    record {
      name = 'ph';
      attributes = ph_attributes f;
      is_text = refl;
      name_good = refl;
      good = good_number 'id' f.id _ refl
          (good_unless_zero 'copyOf' f.copy_of _ refl
          (good_unless_zero 'dataRef' f.data_ref _ refl (good_hints false f [] refl)));
      none_twice = (ph_read f).none_twice;
      is_read = ph_inline f n l;
    }

-- sc and ec: their fields and whether they are isolated, read back
module _ (id w : List ℕ) (f : Fields) (h : Half id w (half_attributes id w f) f) where
  abbrev ats : List Attribute
  ats = half_attributes id w f

  half_back : Numbers f → Letters ('Y' ∷ 'N' ∷ []) f
      → code_fields id 'dataRef' (choice 'canOverlap' yes_no 'Y' ats) ats ≡ some f
  half_back n l =
      code_back id 'dataRef' ('Y' ∷ 'N' ∷ []) (choice 'canOverlap' yes_no 'Y' ats) ats f h.code n l
      (choice_word 'canOverlap' yes_no 'Y' ats f.can_overlap h.can_overlap_lem
      (yes_no_back f.can_overlap l.can_overlap))

  isolated_back : (i : ℕ) → letter_of yes_no w ≡ some i → isolated_letter ats ≡ some i
  unfolding isolated_letter choice
  isolated_back i e = rw (h.is_isolated, choice) e

sc_inline : (f : Fields) (w : List ℕ) (i : ℕ) → letter_of yes_no w ≡ some i → Numbers f → Letters ('Y' ∷ 'N' ∷ []) f
    → read_sc (half_attributes 'id' w f) ≡ some (single (cond (eqb i 'Y') (isolated start f) (pair start form_S f)))
unfolding read_sc with
sc_inline f w i e n l =
    let h = half_id_read f w in
    rw (h.code.no_other, isolated_back 'id' w f h i e, half_back 'id' w f h n l)

ec_inline : (f : Fields) → Numbers f → Letters ('Y' ∷ 'N' ∷ []) f
    → read_ec (half_attributes 'startRef' 'no' f) ≡ some (single (pair end form_S f))
unfolding read_ec with letter_of yes_no equal Words·all
ec_inline f n l =
    let h = half_ref_read f 'no' in
    rw (isolated_back 'startRef' 'no' f h 'N' refl, h.code.no_other, half_back 'startRef' 'no' f h n l)

ie_inline : (f : Fields) → Numbers f → Letters ('Y' ∷ 'N' ∷ []) f
    → read_ec (half_attributes 'id' 'yes' f) ≡ some (single (isolated end f))
unfolding read_ec with letter_of yes_no equal Words·all
ie_inline f n l =
    let h = half_id_read f 'yes' in
    rw (isolated_back 'id' 'yes' f h 'Y' refl, h.code.no_other, half_back 'id' 'yes' f h n l)

good_half : (id : List ℕ) (w : List ℕ) (f : Fields) → good_name id ≡ true → plain w ≡ true
    → good_attributes (half_attributes id w f) ≡ true
unfolding half_attributes good_name is_letter letters between Words·all good_attributes
good_half id w f g p =
    good_number id f.id _ g (good_unless_zero 'copyOf' f.copy_of _ refl (good_unless_zero 'dataRef' f.data_ref _ refl
    (good_hints true f (attribute 'isolated' w) (good_one 'isolated' w [] refl p refl))))

half_single : (x : Item) (name id w : List ℕ) (f : Fields) (t : List ℕ) → t ≡ short_tag name (half_attributes id w f)
    → good_name name ≡ true → good_name id ≡ true → plain w ≡ true → Half id w (half_attributes id w f) f
    → inline_of_name name (half_attributes id w f) ≡ some (single x) → Single x t
half_single x name id w f t e g k p h r =
    record {
      name = name;
      attributes = half_attributes id w f;
      is_text = e;
      name_good = g;
      good = good_half id w f k p;
      none_twice = h.code.none_twice;
      is_read = r;
    }

pub is_single : (f : Fields) (after : Content) → Numbers f → Letters ('Y' ∷ 'N' ∷ []) f
    → Single (isolated start f) (item_text (isolated start f) after)
unfolding item_text good_name is_letter letters between Words·all inline_of_name equal plain letter_of yes_no
is_single f after n l =
    half_single (isolated start f) 'sc' 'id' 'yes' f _ refl refl refl refl (half_id_read f 'yes')
    (sc_inline f 'yes' 'Y' refl n l)

pub ie_single : (f : Fields) (after : Content) → Numbers f → Letters ('Y' ∷ 'N' ∷ []) f
    → Single (isolated end f) (item_text (isolated end f) after)
unfolding item_text good_name is_letter letters between Words·all inline_of_name equal plain
ie_single f after n l =
    half_single (isolated end f) 'ec' 'id' 'yes' f _ refl refl refl refl (half_id_read f 'yes') (ie_inline f n l)

pub sc_single : (f : Fields) (after : Content) → Numbers f → Letters ('Y' ∷ 'N' ∷ []) f
    → Single (pair start form_S f) (item_text (pair start form_S f) after)
unfolding item_text good_name is_letter letters between Words·all inline_of_name equal plain letter_of yes_no
sc_single f after n l =
    half_single (pair start form_S f) 'sc' 'id' 'no' f _ refl refl refl refl (half_id_read f 'no')
    (sc_inline f 'no' 'N' refl n l)

pub ec_single : (f : Fields) (after : Content) → Numbers f → Letters ('Y' ∷ 'N' ∷ []) f
    → Single (pair end form_S f) (item_text (pair end form_S f) after)
unfolding item_text good_name is_letter letters between Words·all inline_of_name equal plain
ec_single f after n l =
    half_single (pair end form_S f) 'ec' 'startRef' 'no' f _ refl refl refl refl (half_ref_read f 'no') (ec_inline f n l)

-- pc, with the dataRef of its end
pc_inline : (f : Fields) (d : ℕ) → d < 65536 → Numbers f → Letters ('Y' ∷ 'N' ∷ []) f
    → read_pc (pc_attributes f d) ≡ some (nested (pair start form_P f) (pair end form_P (end_of_pc f d)))
unfolding read_pc with
pc_inline f d k n l =
    let h = pc_read f d in
    rw (
      h.code.no_other,
      code_back 'id' 'dataRefStart' ('Y' ∷ 'N' ∷ []) (choice 'canOverlap' yes_no 'N' (pc_attributes f d))
          (pc_attributes f d) f h.code n l
          (choice_word 'canOverlap' yes_no 'N' (pc_attributes f d) f.can_overlap h.can_overlap_lem
          (yes_no_back f.can_overlap l.can_overlap)),
      optional_shown 'dataRefEnd' (pc_attributes f d) d k h.end_at,
    )

pub pc_opening : (f : Fields) (after : Content) → first_data (pending after) < 65536 → Numbers f
    → Letters ('Y' ∷ 'N' ∷ []) f
    → Opening (pair start form_P f) (pair end form_P (end_of_pc f (first_data (pending after)))) 'pc'
    (item_text (pair start form_P f) after)
unfolding item_text good_name is_letter letters between Words·all inline_of_name equal plain pc_attributes hints
    word_attribute good_attributes
pc_opening f after k n l =
    let d : ℕ = first_data (pending after) in
    record {
      attributes = pc_attributes f d;
      is_text = refl;
      name_good = refl;
      good = good_number 'id' f.id _ refl
          (good_unless_zero 'copyOf' f.copy_of _ refl
          (good_unless_zero 'dataRefStart' f.data_ref _ refl
          (good_unless_zero 'dataRefEnd' d _ refl (good_hints true f [] refl))));
      none_twice = (pc_read f d).code.none_twice;
      is_read = pc_inline f d k n l;
    }
