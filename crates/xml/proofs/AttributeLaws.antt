-- The attributes that the writer writes are read as the fields that they were written from.
use Prim.Native.Nat.{ℕ, zero, suc, ◌≤◌, ◌<◌}
use mathlib.Core.Path.{◌≡◌, refl}
use mathlib.Core.Bool.{Bool, true, false, ◌&&◌, cond}
use mathlib.Core.List.{List, [], ◌∷◌, ◌++◌}
use mathlib.Core.Option.{Option, none, some}
use native.Mathlib.Omega.{arith}
use lib.Dec.{eqb}
use Rattle.xliff.specs.Bytes.{'-', 'F', 'N', 'Y', equal, any, among}
use Rattle.xliff.specs.State.{state_letters}
use Rattle.xliff.specs.Good.{each_nil, each_cons}
use Rattle.xliff.specs.Item.{Fields}
use Rattle.xliff.specs.Desk.{decimal}
use Rattle.xliff.proofs.lists.Tests.{and_left, and_right}
use Rattle.xliff.proofs.lists.Each.{each_among}
use Rattle.xml.specs.Words.{'id', 'copyOf', 'dataRef', 'dataRefStart', 'dataRefEnd', 'startRef', 'canCopy', 'canDelete', 'canOverlap', 'canReorder', 'isolated', Words·all}
use Rattle.xml.specs.Tokens.{Attribute, doubled}
use Rattle.xml.specs.Attributes.{with, named, only, value_of, required, optional, Word, yes_no, yes_first_no, states, letter_of, choice}
use Rattle.xml.specs.Elements.{code_names}
use Rattle.xml.specs.Write.{attribute, number_attribute, unless_zero, word_of, word_attribute, unless_hyphen, hints, ph_attributes, half_attributes, pc_attributes}
use Rattle.xml.proofs.LetterLaws.{plain}
use Rattle.xml.proofs.TagLaws.{good_name, good_attribute, good_attributes}
use Rattle.xml.proofs.NumberLaws.{decimal_plain, number_decimal}

-- a number, by what is shown of it
abbrev pub shown : ℕ → Option (List ℕ)
shown zero = none
shown (suc k) = some (decimal (suc k))

pub optional_shown : (n : List ℕ) (ats : List Attribute) (c : ℕ) → c < 65536 → value_of n ats ≡ shown c
    → optional n ats ≡ some c
unfolding optional
optional_shown n ats zero h e = rw (e, optional)
optional_shown n ats (suc c) h e = rw (e, optional) (number_decimal (suc c) (omega arith) (omega arith))

pub required_shown : (n : List ℕ) (ats : List Attribute) (i : ℕ) → 1 ≤ i → i < 65536 → value_of n ats ≡ some (decimal i)
    → required n ats ≡ some i
unfolding required with
required_shown n ats i l h e = rw e (number_decimal i l (omega arith))

-- a letter, by its word
pub choice_word : (n : List ℕ) (ws : List Word) (d : ℕ) (ats : List Attribute) (l : ℕ)
    → value_of n ats ≡ some (word_of ws l) → letter_of ws (word_of ws l) ≡ some l → choice n ws d ats ≡ some l
unfolding choice
choice_word n ws d ats l e k = rw (e, choice) k

pub choice_absent : (n : List ℕ) (ws : List Word) (d : ℕ) (ats : List Attribute) → value_of n ats ≡ none
    → choice n ws d ats ≡ some d
unfolding choice
choice_absent n ws d ats e = rw (e, choice)

-- the word of a letter gives the letter back
abbrev WordBack : List Word → ℕ → Type 0
WordBack ws l = letter_of ws (word_of ws l) ≡ some l

pub yes_no_back : (l : ℕ) → among l ('Y' ∷ 'N' ∷ []) ≡ true → letter_of yes_no (word_of yes_no l) ≡ some l
unfolding letter_of word_of yes_no equal Words·all
yes_no_back l e = each_among (WordBack yes_no) ('Y' ∷ 'N' ∷ []) (each_cons refl (each_cons refl each_nil)) l e

pub yes_first_no_back : (l : ℕ) → among l ('Y' ∷ 'F' ∷ 'N' ∷ []) ≡ true
    → letter_of yes_first_no (word_of yes_first_no l) ≡ some l
unfolding letter_of word_of yes_first_no equal Words·all
yes_first_no_back l e =
    each_among (WordBack yes_first_no) ('Y' ∷ 'F' ∷ 'N' ∷ [])
    (each_cons refl (each_cons refl (each_cons refl each_nil))) l e

pub states_back : (l : ℕ) → among l state_letters ≡ true → letter_of states (word_of states l) ≡ some l
unfolding letter_of word_of states equal Words·all
states_back l e =
    each_among (WordBack states) state_letters
    (each_cons refl (each_cons refl (each_cons refl (each_cons refl each_nil)))) l e

-- Y, N or -, where - is written by nothing
pub hyphen_back : (n : List ℕ) (ats : List Attribute) (l : ℕ) → among l ('Y' ∷ 'N' ∷ '-' ∷ []) ≡ true
    → value_of n ats ≡ cond (eqb l '-') none (some (word_of yes_no l)) → choice n yes_no '-' ats ≡ some l
hyphen_back n ats =
    each_among (λ x. value_of n ats ≡ cond (eqb x '-') none (some (word_of yes_no x)) → choice n yes_no '-' ats ≡ some x)
    ('Y' ∷ 'N' ∷ '-' ∷ [])
    (each_cons (λ k. choice_word n yes_no '-' ats 'Y' k (yes_no_back 'Y' (unfold among in refl)))
    (each_cons (λ k. choice_word n yes_no '-' ats 'N' k (yes_no_back 'N' (unfold among in refl)))
    (each_cons (λ k. choice_absent n yes_no '-' ats k) each_nil)))

-- words are plain
unfoldable plain_words : List Word → Bool
plain_words [] = true
plain_words (w ∷ ws) = plain w.spelling && plain_words ws

word_plain : (ws : List Word) → plain_words ws ≡ true → (l : ℕ) → plain (word_of ws l) ≡ true
unfolding word_of plain_words plain
word_plain [] h l = refl
word_plain (w ∷ ws) h l = by (eqb l w.letter) (word_plain ws (and_right (plain w.spelling) _ h) l)
  where
    by : (b : Bool) → plain (word_of ws l) ≡ true → plain (cond b w.spelling (word_of ws l)) ≡ true
    by true ih = and_left _ _ h
    by false ih = ih

pub yes_no_plain : (l : ℕ) → plain (word_of yes_no l) ≡ true
yes_no_plain l = word_plain yes_no (unfold plain_words yes_no plain Words·all in refl) l

pub yes_first_no_plain : (l : ℕ) → plain (word_of yes_first_no l) ≡ true
yes_first_no_plain l = word_plain yes_first_no (unfold plain_words yes_first_no plain Words·all in refl) l

pub states_plain : (l : ℕ) → plain (word_of states l) ≡ true
states_plain l = word_plain states (unfold plain_words states plain Words·all in refl) l

-- attributes one by one
pub good_one : (n v : List ℕ) (ats : List Attribute) → good_name n ≡ true → plain v ≡ true → good_attributes ats ≡ true
    → good_attributes (attribute n v ++ ats) ≡ true
unfolding good_attributes good_attribute
good_one n v ats g p h = rw (g, p, h)

pub good_number : (n : List ℕ) (i : ℕ) (ats : List Attribute) → good_name n ≡ true → good_attributes ats ≡ true
    → good_attributes (number_attribute n i ++ ats) ≡ true
unfolding number_attribute
good_number n i ats g h = good_one n (decimal i) ats g (decimal_plain i) h

pub good_unless_zero : (n : List ℕ) (i : ℕ) (ats : List Attribute) → good_name n ≡ true → good_attributes ats ≡ true
    → good_attributes (unless_zero n i ++ ats) ≡ true
unfolding unless_zero
good_unless_zero n zero ats g h = h
good_unless_zero n (suc i) ats g h = good_number n (suc i) ats g h

pub good_unless_hyphen : (n : List ℕ) (l : ℕ) (ats : List Attribute) → good_name n ≡ true → good_attributes ats ≡ true
    → good_attributes (unless_hyphen n l ++ ats) ≡ true
unfolding unless_hyphen word_attribute
good_unless_hyphen n l ats g h = by (eqb l '-')
  where
    by : (b : Bool) → good_attributes (cond b [] (attribute n (word_of yes_no l)) ++ ats) ≡ true
    by true = h
    by false = good_one n (word_of yes_no l) ats g (yes_no_plain l) h

-- What the attributes of a code are: no others, none twice, and the value of each
pub record Code (names : List (List ℕ)) (id ref : List ℕ) (ats : List Attribute) (f : Fields) : Type 0 where
  pub no_other : only names ats ≡ true
  pub none_twice : doubled ats ≡ false
  pub id_at : value_of id ats ≡ some (decimal f.id)
  pub copy_at : value_of 'copyOf' ats ≡ shown f.copy_of
  pub ref_at : value_of ref ats ≡ shown f.data_ref
  pub can_copy_lem : value_of 'canCopy' ats ≡ some (word_of yes_no f.can_copy)
  pub can_delete_lem : value_of 'canDelete' ats ≡ some (word_of yes_no f.can_delete)
  pub can_reorder_lem : value_of 'canReorder' ats ≡ some (word_of yes_first_no f.can_reorder)

code_of_lem : {names : List (List ℕ)} {id ref : List ℕ} {ats : List Attribute} {f : Fields}
    → only names ats ≡ true → doubled ats ≡ false → value_of id ats ≡ some (decimal f.id)
    → value_of 'copyOf' ats ≡ shown f.copy_of → value_of ref ats ≡ shown f.data_ref
    → value_of 'canCopy' ats ≡ some (word_of yes_no f.can_copy)
    → value_of 'canDelete' ats ≡ some (word_of yes_no f.can_delete)
    → value_of 'canReorder' ats ≡ some (word_of yes_first_no f.can_reorder) → Code names id ref ats f
code_of_lem o t i c r a b e =
    record {
      no_other = o;
      none_twice = t;
      id_at = i;
      copy_at = c;
      ref_at = r;
      can_copy_lem = a;
      can_delete_lem = b;
      can_reorder_lem = e;
    }

abbrev fields_of : ℕ → ℕ → ℕ → ℕ → ℕ → ℕ → ℕ → Fields
fields_of i c r a b o e =
    record { id = i; copy_of = c; data_ref = r; can_copy = a; can_delete = b; can_overlap = o; can_reorder = e }

ph_code : (i c r a b o e : ℕ)
    → Code ('id' ∷ 'copyOf' ∷ 'dataRef' ∷ 'canCopy' ∷ 'canDelete' ∷ 'canReorder' ∷ []) 'id' 'dataRef'
    (ph_attributes (fields_of i c r a b o e)) (fields_of i c r a b o e)
unfolding only named any equal value_of doubled Words·all number_attribute unless_zero word_attribute hints ph_attributes
ph_code i zero zero a b o e = code_of_lem refl refl refl refl refl refl refl refl
ph_code i zero (suc r) a b o e = code_of_lem refl refl refl refl refl refl refl refl
ph_code i (suc c) zero a b o e = code_of_lem refl refl refl refl refl refl refl refl
ph_code i (suc c) (suc r) a b o e = code_of_lem refl refl refl refl refl refl refl refl

pub ph_read : (f : Fields)
    → Code ('id' ∷ 'copyOf' ∷ 'dataRef' ∷ 'canCopy' ∷ 'canDelete' ∷ 'canReorder' ∷ []) 'id' 'dataRef' (ph_attributes f) f
ph_read f = ph_code f.id f.copy_of f.data_ref f.can_copy f.can_delete f.can_overlap f.can_reorder

-- sc and ec: the same, with canOverlap and isolated
pub record Half (id word : List ℕ) (ats : List Attribute) (f : Fields) : Type 0 where
  pub code : Code (id ∷ code_names) id 'dataRef' ats f
  pub can_overlap_lem : value_of 'canOverlap' ats ≡ some (word_of yes_no f.can_overlap)
  pub is_isolated : value_of 'isolated' ats ≡ some word

half_by_id : (i c r a b o e : ℕ) (w : List ℕ)
    → Half 'id' w (half_attributes 'id' w (fields_of i c r a b o e)) (fields_of i c r a b o e)
unfolding only named any equal value_of doubled Words·all number_attribute unless_zero word_attribute hints half_attributes
half_by_id i zero zero a b o e w =
    record { code = code_of_lem refl refl refl refl refl refl refl refl; can_overlap_lem = refl; is_isolated = refl }
half_by_id i zero (suc r) a b o e w =
    record { code = code_of_lem refl refl refl refl refl refl refl refl; can_overlap_lem = refl; is_isolated = refl }
half_by_id i (suc c) zero a b o e w =
    record { code = code_of_lem refl refl refl refl refl refl refl refl; can_overlap_lem = refl; is_isolated = refl }
half_by_id i (suc c) (suc r) a b o e w =
    record { code = code_of_lem refl refl refl refl refl refl refl refl; can_overlap_lem = refl; is_isolated = refl }

pub half_id_read : (f : Fields) (w : List ℕ) → Half 'id' w (half_attributes 'id' w f) f
half_id_read f w =
    half_by_id f.id f.copy_of f.data_ref f.can_copy f.can_delete f.can_overlap f.can_reorder w

half_by_ref : (i c r a b o e : ℕ) (w : List ℕ)
    → Half 'startRef' w (half_attributes 'startRef' w (fields_of i c r a b o e)) (fields_of i c r a b o e)
unfolding only named any equal value_of doubled Words·all number_attribute unless_zero word_attribute hints half_attributes
half_by_ref i zero zero a b o e w =
    record { code = code_of_lem refl refl refl refl refl refl refl refl; can_overlap_lem = refl; is_isolated = refl }
half_by_ref i zero (suc r) a b o e w =
    record { code = code_of_lem refl refl refl refl refl refl refl refl; can_overlap_lem = refl; is_isolated = refl }
half_by_ref i (suc c) zero a b o e w =
    record { code = code_of_lem refl refl refl refl refl refl refl refl; can_overlap_lem = refl; is_isolated = refl }
half_by_ref i (suc c) (suc r) a b o e w =
    record { code = code_of_lem refl refl refl refl refl refl refl refl; can_overlap_lem = refl; is_isolated = refl }

pub half_ref_read : (f : Fields) (w : List ℕ) → Half 'startRef' w (half_attributes 'startRef' w f) f
half_ref_read f w =
    half_by_ref f.id f.copy_of f.data_ref f.can_copy f.can_delete f.can_overlap f.can_reorder w

-- pc: with canOverlap and the dataRef of its end
pub record Nested (ats : List Attribute) (f : Fields) (d : ℕ) : Type 0 where
  pub code :
      Code ('id' ∷ 'copyOf' ∷ 'dataRefStart' ∷ 'dataRefEnd' ∷ 'canCopy' ∷ 'canDelete' ∷ 'canOverlap' ∷ 'canReorder' ∷ [])
      'id' 'dataRefStart' ats f
  pub can_overlap_lem : value_of 'canOverlap' ats ≡ some (word_of yes_no f.can_overlap)
  pub end_at : value_of 'dataRefEnd' ats ≡ shown d

pc_code : (i c r d a b o e : ℕ) → Nested (pc_attributes (fields_of i c r a b o e) d) (fields_of i c r a b o e) d
unfolding only named any equal value_of doubled Words·all number_attribute unless_zero word_attribute hints pc_attributes
pc_code i zero zero zero a b o e =
    record { code = code_of_lem refl refl refl refl refl refl refl refl; can_overlap_lem = refl; end_at = refl }
pc_code i zero zero (suc d) a b o e =
    record { code = code_of_lem refl refl refl refl refl refl refl refl; can_overlap_lem = refl; end_at = refl }
pc_code i zero (suc r) zero a b o e =
    record { code = code_of_lem refl refl refl refl refl refl refl refl; can_overlap_lem = refl; end_at = refl }
pc_code i zero (suc r) (suc d) a b o e =
    record { code = code_of_lem refl refl refl refl refl refl refl refl; can_overlap_lem = refl; end_at = refl }
pc_code i (suc c) zero zero a b o e =
    record { code = code_of_lem refl refl refl refl refl refl refl refl; can_overlap_lem = refl; end_at = refl }
pc_code i (suc c) zero (suc d) a b o e =
    record { code = code_of_lem refl refl refl refl refl refl refl refl; can_overlap_lem = refl; end_at = refl }
pc_code i (suc c) (suc r) zero a b o e =
    record { code = code_of_lem refl refl refl refl refl refl refl refl; can_overlap_lem = refl; end_at = refl }
pc_code i (suc c) (suc r) (suc d) a b o e =
    record { code = code_of_lem refl refl refl refl refl refl refl refl; can_overlap_lem = refl; end_at = refl }

pub pc_read : (f : Fields) (d : ℕ) → Nested (pc_attributes f d) f d
pc_read f d = pc_code f.id f.copy_of f.data_ref d f.can_copy f.can_delete f.can_overlap f.can_reorder
