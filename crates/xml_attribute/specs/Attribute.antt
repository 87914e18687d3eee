-- What is read of a start tag from a place on.
use Rattle.std.specs.Prelude.{ℕ, ◌≤◌, ◌<◌, ◌≡◌, Bool, true, false, cond, List, [], ◌∷◌, ◌++◌, length, drop, Result, Ok, Err}
use Rattle.xml.specs.Tokens.{Attribute, Token, start_tag, end_tag, fault, cut_tag, Tag, State, outside_tags, in_tag, doubled, with_attribute}
use Rattle.xml.specs.Places.{tokens_at}
use Rattle.xml_names.specs.Names.{bytes_between, NameIn}
use Rattle.xml_values.specs.Values.{value_codes}
use Rattle.xml_attribute.specs.declared.AttributeAt.{AttributeAt}
use Rattle.xml_attribute.specs.declared.Next.{Next}
use Rattle.xml_attribute.specs.declared.Next.TheVariants.{One, End}
use Rattle.xml_front.specs.declared.Flaw.{Flaw}
use Rattle.xml_front.specs.declared.Flaw.TheVariants.{Cut, Wrong}

-- the attribute that stands there, and a tag with it
unfoldable pub attribute_of : List ℕ → AttributeAt → Attribute
attribute_of s a =
    record { name = bytes_between s a.name.from a.name.upto; value = value_codes a.mark 0 (drop a.value s) }

unfoldable pub tag_with : List ℕ → AttributeAt → Tag → Tag
tag_with s a t = with_attribute t (attribute_of s a).name (attribute_of s a).value

-- it lies within the text
pub record AttributeIn (s : List ℕ) (a : AttributeAt) : Type 0 where
  pub name : NameIn s a.name.from a.name.upto
  pub value_high : a.value ≤ length s

-- the tokens of a whole tag
unfoldable pub short_form : Bool → Tag → List Token
short_form true t = end_tag t.place t.name ∷ []
short_form false t = []

abbrev pub tag_tokens : Bool → Tag → List Token
tag_tokens short t = start_tag t.place t.name t.attributes ∷ short_form short t

-- and of what stands behind it
unfoldable pub whole_tokens : List ℕ → ℕ → Bool → Tag → List Token
whole_tokens s next short t =
    cond (doubled t.attributes) (fault t.place ∷ []) (tag_tokens short t ++ tokens_at s outside_tags next)

-- the tokens from a place on, in a state that knows the tag so far
pub record OneRead (s : List ℕ) (st : Tag → State) (at : ℕ) (a : AttributeAt) : Type 0 where
  pub place : AttributeIn s a
  pub ahead : at < a.next
  pub inside : a.next ≤ length s
  pub same : (t : Tag) → tokens_at s (st t) at ≡ tokens_at s (in_tag (tag_with s a t) false) a.next

pub record EndRead (s : List ℕ) (st : Tag → State) (at next : ℕ) (short : Bool) : Type 0 where
  pub ahead : at < next
  pub inside : next ≤ length s
  pub same : (t : Tag) → tokens_at s (st t) at ≡ whole_tokens s next short t

abbrev pub Reading : List ℕ → (Tag → State) → ℕ → Result Next Flaw → Type 0
Reading s st at (Ok (One a)) = OneRead s st at a
Reading s st at (Ok (End next short)) = EndRead s st at next short
Reading s st at (Err Cut) = (t : Tag) → tokens_at s (st t) at ≡ cut_tag t.place (length s) ∷ []
Reading s st at (Err Wrong) = (t : Tag) → tokens_at s (st t) at ≡ fault t.place ∷ []
