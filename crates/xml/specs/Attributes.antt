-- The attributes of a tag and their values. Order 1: "Ids and orders are decimal, 1 to 65535, no leading zero. Absent
-- attributes take the draft's defaults (22 if required) .. other attributes not." None: the tag is at fault.
use Rattle.std.specs.Prelude.{ℕ, ◌+◌, ◌*◌, ◌-◌, Bool, true, not, ◌&&◌, cond, List, [], ◌∷◌, get_or, eqb}
use Rattle.std.proofs.Math.Option.{Option, none, some}
use Rattle.xliff.specs.Bytes.{'F', 'I', 'N', 'R', 'T', 'Y', equal, any}
use Rattle.xliff.specs.Text.{between}
use Rattle.xliff.specs.Item.{Fields}
use Rattle.xml.specs.Words.{'yes', 'no', 'firstNo', 'initial', 'translated', 'reviewed', 'final', 'copyOf', 'canCopy', 'canDelete', 'canReorder'}
use Rattle.xml.specs.Tokens.{Attribute, Tokens·all}

-- a value, and what is made of it
module _ {A B : Type 0} where
  unfoldable pub with : Option A → (A → Option B) → Option B
  with none f = none
  with (some a) f = f a

-- only attributes of these names
unfoldable pub named : List (List ℕ) → List ℕ → Bool
named names n = any (equal n) names

unfoldable pub only : List (List ℕ) → List Attribute → Bool
only names [] = true
only names (a ∷ ats) = named names a.name && only names ats

-- the value of an attribute, if it is there
unfoldable pub value_of : List ℕ → List Attribute → Option (List ℕ)
value_of n [] = none
value_of n (a ∷ ats) = cond (equal n a.name) (some a.value) (value_of n ats)

-- "decimal, 1 to 65535, no leading zero"
unfoldable pub all_digits : List ℕ → Bool
all_digits [] = true
all_digits (b ∷ v) = between 48 b 57 && all_digits v

unfoldable pub decimal_value : ℕ → List ℕ → ℕ
decimal_value n [] = n
decimal_value n (b ∷ v) = decimal_value (n * 10 + (b - 48)) v

unfoldable pub number : List ℕ → Option ℕ
number v =
    cond (all_digits v && (not (eqb (get_or v 0 48) 48) && between 1 (decimal_value 0 v) 65535)) (some (decimal_value 0 v))
    none

-- an id or reference that must be there; one that may be absent, which is 0
unfoldable pub required : List ℕ → List Attribute → Option ℕ
required n ats = with (value_of n ats) number

unfoldable pub optional : List ℕ → List Attribute → Option ℕ
optional n ats = elim (value_of n ats) [ none ↦ some 0 | some v ↦ number v ]

-- "cp (four upper hexadecimal digits)"
unfoldable pub upper_hex : ℕ → Option ℕ
upper_hex b = cond (between 48 b 57) (some (b - 48)) (cond (between 65 b 70) (some (b - 55)) none)

unfoldable pub hexadecimal : List ℕ → Option ℕ
hexadecimal [] = none
hexadecimal (a ∷ []) = none
hexadecimal (a ∷ b ∷ []) = none
hexadecimal (a ∷ b ∷ c ∷ []) = none
hexadecimal (a ∷ b ∷ c ∷ d ∷ []) =
    with (upper_hex a) (λ i.
    with (upper_hex b) (λ j. with (upper_hex c) (λ k. with (upper_hex d) (λ l. some (i * 4096 + j * 256 + k * 16 + l)))))
hexadecimal (a ∷ b ∷ c ∷ d ∷ e ∷ v) = none

-- a letter of the table and its word in XML
pub record Word : Type 0 where
  pub spelling : List ℕ
  pub letter : ℕ

abbrev pub word : List ℕ → ℕ → Word
word s l = record { spelling = s; letter = l }

unfoldable pub yes_no : List Word
yes_no = word 'yes' 'Y' ∷ word 'no' 'N' ∷ []

unfoldable pub yes_first_no : List Word
yes_first_no = word 'yes' 'Y' ∷ word 'firstNo' 'F' ∷ word 'no' 'N' ∷ []

unfoldable pub states : List Word
states = word 'initial' 'I' ∷ word 'translated' 'T' ∷ word 'reviewed' 'R' ∷ word 'final' 'F' ∷ []

unfoldable pub letter_of : List Word → List ℕ → Option ℕ
letter_of [] v = none
letter_of (w ∷ ws) v = cond (equal v w.spelling) (some w.letter) (letter_of ws v)

-- an attribute with words for values; absent it has its default
unfoldable pub choice : List ℕ → List Word → ℕ → List Attribute → Option ℕ
choice n ws default ats = elim (value_of n ats) [ none ↦ some default | some v ↦ letter_of ws v ]

-- the fields of a code: the attributes of its id and its dataRef, its canOverlap. The defaults: canCopy, canDelete and
-- canReorder yes
unfoldable pub code_fields : List ℕ → List ℕ → Option ℕ → List Attribute → Option Fields
code_fields id ref overlap ats =
    with (required id ats) (λ i.
    with (optional 'copyOf' ats) (λ c.
    with (optional ref ats) (λ r.
    with (choice 'canCopy' yes_no 'Y' ats) (λ copy.
    with (choice 'canDelete' yes_no 'Y' ats) (λ delete.
    with overlap (λ over.
    with (choice 'canReorder' yes_first_no 'Y' ats) (λ reorder.
    some
    (record {
      id = i;
      copy_of = c;
      data_ref = r;
      can_copy = copy;
      can_delete = delete;
      can_overlap = over;
      can_reorder = reorder;
    }))))))))

unfoldable pub Attributes·all : Unit {0}
unfolding Tokens·all with named only value_of all_digits decimal_value number required optional upper_hex hexadecimal yes_no
    yes_first_no states letter_of choice code_fields
Attributes·all = tt
