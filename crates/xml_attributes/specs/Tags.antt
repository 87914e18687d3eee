-- The attributes of a start tag: what the slots hold of them. Stepping stones.
use Rattle.std.specs.Prelude.{ℕ, ◌≤◌, ◌<◌, ◌≡◌, Bool, true, false, List, [], ◌∷◌, ◌++◌, length, Option as RustOption, Some, None, Result, Ok, Err}
use Rattle.std.specs.Borrow.{Bor}
use Rattle.xml.specs.Tokens.{Attribute, cut_tag, Tag, outside_tags, in_tag}
use Rattle.xml.specs.Places.{tokens_at}
use Rattle.xml.specs.Elements.{Where, bad, elements}
use Rattle.xml_attribute.specs.Attribute.{tag_tokens}
use Rattle.xml_slots.specs.Slots.{slots_of, sound, index_of, Slotted}
use Rattle.xml_attributes.specs.declared.Tagged.{Tagged}
use Rattle.xml_front.specs.declared.Flaw.{Flaw}
use Rattle.xml_front.specs.declared.Flaw.TheVariants.{Cut, Wrong}

-- a start tag of a place and a name, with the attributes so far
abbrev pub tag_so_far : ℕ → List ℕ → List Attribute → Tag
tag_so_far place name ats = record { place = place; name = name; attributes = ats }

-- A whole tag from its attributes on: they are in the slots, `count` of them; the text goes on at `next`
pub record WholeTag (text : List ℕ) (at : ℕ) (slots : List ℕ) (next : ℕ) (short : Bool) (count : ℕ) : Type 0 where
  pub attributes : List Attribute
  pub ahead : at < next
  pub inside : next ≤ length text
  pub slotted : Slotted slots count attributes
  pub same : (place : ℕ) (name : List ℕ) → tokens_at text (in_tag (tag_so_far place name []) false) at
      ≡ tag_tokens short (tag_so_far place name attributes) ++ tokens_at text outside_tags next

abbrev pub TagRead : List ℕ → ℕ → List ℕ → Result Tagged Flaw → Type 0
TagRead text at slots (Ok tag) = WholeTag text at slots tag.next tag.short tag.count
TagRead text at slots (Err Cut) =
    (place : ℕ) (name : List ℕ) → tokens_at text (in_tag (tag_so_far place name []) false) at ≡ cut_tag place (length text) ∷ []
TagRead text at slots (Err Wrong) =
    (place : ℕ) (name : List ℕ) (w : Where) → elements w (tokens_at text (in_tag (tag_so_far place name []) false) at) ≡ bad place

-- what is known of attributes: whether they are sound and, where they are, what their slots hold
pub record Known (slots : List ℕ) (fine : Bool) (ats : List Attribute) : Type 0 where
  pub are_sound : fine ≡ sound ats
  pub told : fine ≡ true → slots ≡ slots_of ats

-- words as the program has them; the place of a name among names, if it is there
abbrev pub spelled : List (Bor (List ℕ)) → List (List ℕ)
spelled [] = []
spelled (w ∷ ws) = w.now ∷ spelled ws

abbrev pub PlaceTold : RustOption ℕ → List (List ℕ) → List ℕ → Type 0
PlaceTold (Some k) ns n = (k ≡ index_of ns n) × (k < length ns)
PlaceTold None ns n = index_of ns n ≡ length ns

-- one attribute more is placed: it is known of all
pub record Placed (before : List ℕ) (fine : Bool) (a : Attribute) (after : List ℕ) (still : Bool) : Type 0 where
  pub known : (ats : List Attribute) → Known before fine ats → Known after still (ats ++ (a ∷ []))
  pub size : length after ≡ length before
