-- The numbers and letters of a code, written as attributes, are read back; what an element must be to be read as an
-- item.
use Prim.Native.Nat.{ℕ, ◌≤◌, ◌<◌}
use mathlib.Core.Path.{◌≡◌, refl}
use mathlib.Core.Bool.{Bool, true, false}
use mathlib.Core.List.{List, [], ◌∷◌, ◌++◌}
use mathlib.Core.Option.{Option, some}
use native.Mathlib.Omega.{arith}
use borrow.Author.Tests.{eqb-false, not-true}
use Rattle.xliff.specs.Bytes.{'F', 'N', 'Y', two, among, Bytes}
use Rattle.xliff.specs.Text.{between}
use Rattle.xliff.specs.Item.{Item, Fields}
use Rattle.xliff.specs.Encode.{code_bytes}
use Rattle.xliff.specs.Parse.{good_id, good_code}
use Rattle.xliff.proofs.lists.Tests.{and_left, and_right}
use Rattle.xliff.proofs.records.Fits.{bytes_left, bytes_right, two_fits}
use Rattle.xml.specs.Words.{'copyOf', 'canCopy', 'canDelete', 'canOverlap', 'canReorder', Words·all}
use Rattle.xml.specs.Tokens.{Attribute, doubled}
use Rattle.xml.specs.Attributes.{with, yes_no, yes_first_no, code_fields}
use Rattle.xml.specs.Elements.{single, nested, inline_of_name}
use Rattle.xml.specs.Write.{opening_tag, short_tag, word_of, word_attribute, hints}
use Rattle.xml.proofs.LetterLaws.{is_letter, letters}
use Rattle.xml.proofs.TagLaws.{good_name, good_attributes}
use Rattle.xml.proofs.AttributeLaws.{optional_shown, required_shown, choice_word, yes_no_back, yes_first_no_back, yes_no_plain, yes_first_no_plain, good_one, Code}

-- the numbers of a code fit their attributes
pub record Numbers (f : Fields) : Type 0 where
  pub some_id : 1 ≤ f.id
  pub id : f.id < 65536
  pub copy_of : f.copy_of < 65536
  pub data_ref : f.data_ref < 65536

pub ref_fits : (f : Fields) → Bytes (code_bytes f) → f.data_ref < 65536
unfolding code_bytes
ref_fits f b =
    two_fits f.data_ref
    (bytes_right (two f.id ++ two f.copy_of) _ (bytes_left (two f.id ++ two f.copy_of ++ two f.data_ref) _ b))

pub some_id : (i : ℕ) → good_id i ≡ true → 1 ≤ i
unfolding good_id
some_id i e = let h = eqb-false i 0 (not-true _ e) in omega arith

pub numbers : (f : Fields) → good_id f.id ≡ true → Bytes (code_bytes f) → Numbers f
unfolding code_bytes
numbers f g b =
    let head = bytes_left (two f.id ++ two f.copy_of ++ two f.data_ref) _ b in
    record {
      some_id = some_id f.id g;
      id = two_fits f.id (bytes_left _ _ (bytes_left (two f.id ++ two f.copy_of) _ head));
      copy_of = two_fits f.copy_of (bytes_right (two f.id) _ (bytes_left (two f.id ++ two f.copy_of) _ head));
      data_ref = two_fits f.data_ref (bytes_right (two f.id ++ two f.copy_of) _ head);
    }

-- the letters of a code are those of the table
pub record Letters (overlap : List ℕ) (f : Fields) : Type 0 where
  pub some_id : good_id f.id ≡ true
  pub can_copy : among f.can_copy ('Y' ∷ 'N' ∷ []) ≡ true
  pub can_delete : among f.can_delete ('Y' ∷ 'N' ∷ []) ≡ true
  pub can_overlap : among f.can_overlap overlap ≡ true
  pub can_reorder : among f.can_reorder ('Y' ∷ 'F' ∷ 'N' ∷ []) ≡ true

pub code_letters : (overlap : List ℕ) (f : Fields) → good_code overlap f ≡ true → Letters overlap f
unfolding good_code
code_letters overlap f g =
    let a = and_right (good_id f.id) _ g in
    let b = and_right (among f.can_copy ('Y' ∷ 'N' ∷ [])) _ a in
    let c = and_right (among f.can_delete ('Y' ∷ 'N' ∷ [])) _ b in
    record {
      some_id = and_left _ _ g;
      can_copy = and_left _ _ a;
      can_delete = and_left _ _ b;
      can_overlap = and_left _ _ c;
      can_reorder = and_right (among f.can_overlap overlap) _ c;
    }

-- the fields of a code, read back
pub code_back : {names : List (List ℕ)} (id ref : List ℕ) (overlap : List ℕ) (over : Option ℕ) (ats : List Attribute)
    (f : Fields) → Code names id ref ats f → Numbers f → Letters overlap f → over ≡ some f.can_overlap
    → code_fields id ref over ats ≡ some f
unfolding code_fields with
code_back id ref overlap over ats f c n l o =
    rw (
      required_shown id ats f.id n.some_id n.id c.id_at,
      optional_shown 'copyOf' ats f.copy_of n.copy_of c.copy_at,
      optional_shown ref ats f.data_ref n.data_ref c.ref_at,
      choice_word 'canCopy' yes_no 'Y' ats f.can_copy c.can_copy_lem (yes_no_back f.can_copy l.can_copy),
      choice_word 'canDelete' yes_no 'Y' ats f.can_delete c.can_delete_lem (yes_no_back f.can_delete l.can_delete),
      o,
      choice_word 'canReorder' yes_first_no 'Y' ats f.can_reorder c.can_reorder_lem
          (yes_first_no_back f.can_reorder l.can_reorder),
    )

-- An empty element that is read as an item; an element with content that is read as two
pub record Single (x : Item) (t : List ℕ) : Type 0 where
  pub name : List ℕ
  pub attributes : List Attribute
  pub is_text : t ≡ short_tag name attributes
  pub name_good : good_name name ≡ true
  pub good : good_attributes attributes ≡ true
  pub none_twice : doubled attributes ≡ false
  pub is_read : inline_of_name name attributes ≡ some (single x)

pub record Opening (x y : Item) (n t : List ℕ) : Type 0 where
  pub attributes : List Attribute
  pub is_text : t ≡ opening_tag n attributes
  pub name_good : good_name n ≡ true
  pub good : good_attributes attributes ≡ true
  pub none_twice : doubled attributes ≡ false
  pub is_read : inline_of_name n attributes ≡ some (nested x y)

-- every name of the subset is of letters
pub good_hints : (overlap : Bool) (f : Fields) (ats : List Attribute) → good_attributes ats ≡ true
    → good_attributes (hints overlap f ++ ats) ≡ true
unfolding hints word_attribute good_name is_letter letters between Words·all
good_hints true f ats h =
    good_one 'canCopy' (word_of yes_no f.can_copy) _ refl (yes_no_plain f.can_copy)
    (good_one 'canDelete' (word_of yes_no f.can_delete) _ refl (yes_no_plain f.can_delete)
    (good_one 'canOverlap' (word_of yes_no f.can_overlap) _ refl (yes_no_plain f.can_overlap)
    (good_one 'canReorder' (word_of yes_first_no f.can_reorder) ats refl (yes_first_no_plain f.can_reorder) h)))
good_hints false f ats h =
    good_one 'canCopy' (word_of yes_no f.can_copy) _ refl (yes_no_plain f.can_copy)
    (good_one 'canDelete' (word_of yes_no f.can_delete) _ refl (yes_no_plain f.can_delete)
    (good_one 'canReorder' (word_of yes_first_no f.can_reorder) ats refl (yes_first_no_plain f.can_reorder) h))
