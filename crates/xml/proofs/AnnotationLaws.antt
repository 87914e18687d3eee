-- The elements of mrk, sm and em are read as their items.
use Prim.Native.Nat.{ℕ, ◌≤◌, ◌<◌}
use mathlib.Core.Path.{◌≡◌, refl}
use mathlib.Core.Bool.{Bool, true, false, cond}
use mathlib.Core.List.{[], ◌∷◌, append-nil}
use mathlib.Core.Option.{none, some}
use lib.Dec.{eqb}
use Rattle.xliff.specs.Bytes.{'-', 'N', 'Y', equal, any, among}
use Rattle.xliff.specs.Text.{between}
use Rattle.xliff.specs.Item.{Content, form_P, form_S, annotation_start, annotation_end}
use Rattle.xliff.specs.Desk.{decimal}
use Rattle.xml.specs.Words.{'mrk', 'sm', 'em', 'id', 'startRef', 'translate', Words·all}
use Rattle.xml.specs.Tokens.{doubled}
use Rattle.xml.specs.Attributes.{with, named, only, value_of, yes_no}
use Rattle.xml.specs.Elements.{single, nested, read_mrk, read_sm, read_em, inline_of_name}
use Rattle.xml.specs.Write.{number_attribute, word_of, word_attribute, unless_hyphen, mark_attributes, item_text}
use Rattle.xml.proofs.LetterLaws.{is_letter, letters, plain}
use Rattle.xml.proofs.TagLaws.{good_name, good_attributes}
use Rattle.xml.proofs.AttributeLaws.{required_shown, hyphen_back, good_number, good_unless_hyphen}
use Rattle.xml.proofs.FieldLaws.{Single, Opening}

-- mrk, sm, em
mark_code : (i t : ℕ) → (b : Bool) → eqb t '-' ≡ b
    → (only ('id' ∷ 'translate' ∷ []) (mark_attributes i t) ≡ true)
    × (doubled (mark_attributes i t) ≡ false)
    × (value_of 'id' (mark_attributes i t) ≡ some (decimal i))
    × (value_of 'translate' (mark_attributes i t) ≡ cond (eqb t '-') none (some (word_of yes_no t)))
unfolding mark_attributes number_attribute unless_hyphen word_attribute only named any equal value_of doubled Words·all
mark_code i t true e = rw e (refl, refl, refl, refl)
mark_code i t false e = rw e (refl, refl, refl, refl)

good_mark : (i t : ℕ) → good_attributes (mark_attributes i t) ≡ true
unfolding mark_attributes good_name is_letter letters between Words·all good_attributes
good_mark i t =
    good_number 'id' i _ refl
    (rw (← append-nil (unless_hyphen 'translate' t)) (good_unless_hyphen 'translate' t [] refl refl))

sm_inline : (i t : ℕ) → 1 ≤ i → i < 65536 → among t ('Y' ∷ 'N' ∷ '-' ∷ []) ≡ true
    → read_sm (mark_attributes i t) ≡ some (single (annotation_start form_S i t))
unfolding read_sm with
sm_inline i t l h e =
    let (a, b, c, d) = mark_code i t (eqb t '-') refl in
    rw (a, required_shown 'id' (mark_attributes i t) i l h c, hyphen_back 'translate' (mark_attributes i t) t e d)

mrk_inline : (i t : ℕ) → 1 ≤ i → i < 65536 → among t ('Y' ∷ 'N' ∷ '-' ∷ []) ≡ true
    → read_mrk (mark_attributes i t) ≡ some (nested (annotation_start form_P i t) (annotation_end form_P i))
unfolding read_mrk with
mrk_inline i t l h e =
    let (a, b, c, d) = mark_code i t (eqb t '-') refl in
    rw (a, required_shown 'id' (mark_attributes i t) i l h c, hyphen_back 'translate' (mark_attributes i t) t e d)

pub sm_single : (i t : ℕ) (after : Content) → 1 ≤ i → i < 65536 → among t ('Y' ∷ 'N' ∷ '-' ∷ []) ≡ true
    → Single (annotation_start form_S i t) (item_text (annotation_start form_S i t) after)
unfolding item_text good_name is_letter letters between Words·all inline_of_name equal plain
sm_single i t after l h e =
    record {
      name = 'sm';
      attributes = mark_attributes i t;
      is_text = refl;
      name_good = refl;
      good = good_mark i t;
      none_twice = (mark_code i t (eqb t '-') refl).1;
      is_read = sm_inline i t l h e;
    }

pub mrk_opening : (i t : ℕ) (after : Content) → 1 ≤ i → i < 65536 → among t ('Y' ∷ 'N' ∷ '-' ∷ []) ≡ true
    → Opening (annotation_start form_P i t) (annotation_end form_P i) 'mrk' (item_text (annotation_start form_P i t) after)
unfolding item_text good_name is_letter letters between Words·all inline_of_name equal plain
mrk_opening i t after l h e =
    record {
      attributes = mark_attributes i t;
      is_text = refl;
      name_good = refl;
      good = good_mark i t;
      none_twice = (mark_code i t (eqb t '-') refl).1;
      is_read = mrk_inline i t l h e;
    }

em_inline : (i : ℕ) → 1 ≤ i → i < 65536 → read_em (number_attribute 'startRef' i) ≡ some (single (annotation_end form_S i))
unfolding read_em with only named any equal Words·all number_attribute value_of
em_inline i l h = rw (required_shown 'startRef' (number_attribute 'startRef' i) i l h refl)

pub em_single : (i : ℕ) (after : Content) → 1 ≤ i → i < 65536
    → Single (annotation_end form_S i) (item_text (annotation_end form_S i) after)
unfolding item_text good_name is_letter letters between Words·all inline_of_name equal plain number_attribute doubled any
    good_attributes
em_single i after l h =
    record {
      name = 'em';
      attributes = number_attribute 'startRef' i;
      is_text = refl;
      name_good = refl;
      good = good_number 'startRef' i [] refl refl;
      none_twice = refl;
      is_read = em_inline i l h;
    }
