-- Attributes and tags out of their pieces.
use Prim.Native.Nat.{ℕ, zero, suc}
use mathlib.Core.Path.{◌≡◌, refl, sym, ap}
use mathlib.Core.List.{List, [], ◌∷◌, ◌++◌, append-nil}
use native.Mathlib.Omega.{arith}
use borrow.Author.Tests.{eq-eqb, ne_eqb}
use Rattle.xliff.specs.Bytes.{gather}
use Rattle.xliff.proofs.lists.Tests.{gather_append}
use Rattle.draft.specs.declared.Draft.{Draft}
use Rattle.draft.specs.Drafts.{Wrote}
use Rattle.draft.proofs.DraftLaws.{wrote_then, wrote_as}
use Rattle.xml.specs.Tokens.{Attribute}
use Rattle.xml.specs.Attributes.{yes_no}
use Rattle.xml.specs.Write.{attribute_bytes, attribute, number_attribute, unless_zero, word_attribute, unless_hyphen}
use Rattle.xml_tags.specs.Tags.{attributes_bytes}

-- one attribute: a blank, its name, = and a quote, its value, a quote
pub one_attribute : (name value : List ℕ)
    → (32 ∷ []) ++ (name ++ ((61 ∷ 34 ∷ []) ++ (value ++ (34 ∷ [])))) ≡ attributes_bytes (attribute name value)
unfolding gather attribute_bytes
one_attribute name value =
    sym (append-nil (32 ∷ (name ++ (61 ∷ 34 ∷ (value ++ (34 ∷ []))))))

-- a number that is 0, or not
pub zero_nothing : (name : List ℕ) (n : ℕ) → n ≡ 0 → [] ≡ attributes_bytes (unless_zero name n)
unfolding unless_zero gather
zero_nothing name zero h = refl
zero_nothing name (suc n) h = absurd (omega arith)

pub not_zero : (name : List ℕ) (n : ℕ) → (n ≡ 0 → ⊥)
    → attributes_bytes (number_attribute name n) ≡ attributes_bytes (unless_zero name n)
unfolding unless_zero
not_zero name zero h = absurd (h refl)
not_zero name (suc n) h = refl

-- a letter that is -, or not
pub hyphen_nothing : (name : List ℕ) (l : ℕ) → l ≡ 45 → [] ≡ attributes_bytes (unless_hyphen name l)
unfolding unless_hyphen gather
hyphen_nothing name l h = rw (eq-eqb l 45 h)

pub not_hyphen : (name : List ℕ) (l : ℕ) → (l ≡ 45 → ⊥)
    → attributes_bytes (word_attribute name yes_no l) ≡ attributes_bytes (unless_hyphen name l)
unfolding unless_hyphen
not_hyphen name l h = rw (ne_eqb l 45 h)

-- attributes one behind the other
pub attributes_then : {d e f : Draft} (a b : List Attribute)
    → Wrote (attributes_bytes a) d e → Wrote (attributes_bytes b) e f
    → Wrote (attributes_bytes (a ++ b)) d f
attributes_then a b v w = wrote_as (sym (gather_append attribute_bytes a b)) (wrote_then v w)

-- the value of an attribute, said otherwise
pub value_as : {d e : Draft} (name : List ℕ) {v w : List ℕ} → v ≡ w
    → Wrote (attributes_bytes (attribute name v)) d e
    → Wrote (attributes_bytes (attribute name w)) d e
value_as name h w = wrote_as (ap (λ (x : List ℕ). attributes_bytes (attribute name x)) h) w
