-- Stepping stones: the tags of inline records, as they are put together.
use Rattle.std.specs.Prelude.{ℕ, ◌<◌, ◌≡◌, Bool, cond, List, [], ◌∷◌, ◌++◌}
use Rattle.xliff.specs.Item.{Item, Content, Fields, text, character, standalone, isolated, pair, annotation_start, annotation_end}
use Rattle.draft.specs.declared.Draft.{Draft}
use Rattle.draft.specs.Drafts.{Wrote}
use Rattle.xml.specs.Words.{'copyOf', 'canOverlap'}
use Rattle.xml.specs.Characters.{'>', '/'}
use Rattle.xml.specs.Tokens.{Attribute}
use Rattle.xml.specs.Attributes.{yes_no}
use Rattle.xml.specs.Write.{number_attribute, unless_zero, word_attribute, half_attributes, mark_attributes, pending, first_data, item_text}
use Rattle.xml_tags.specs.Tags.{attributes_bytes}

-- a tag up to the copyOf of a code
abbrev pub code_start : List ℕ → List ℕ → Fields → List ℕ
code_start tag id f = tag ++ attributes_bytes (number_attribute id f.id ++ unless_zero 'copyOf' f.copy_of)

-- canOverlap, where the element has it
abbrev pub overlap_attribute : Bool → ℕ → List Attribute
overlap_attribute shown l = cond shown (word_attribute 'canOverlap' yes_no l) []

-- a start or end
abbrev pub half_tag : List ℕ → List ℕ → List ℕ → Fields → List ℕ
half_tag tag id is_isolated f = tag ++ (attributes_bytes (half_attributes id is_isolated f) ++ ('/' ∷ '>' ∷ []))

-- the start of an annotation
abbrev pub mark_tag : List ℕ → ℕ → ℕ → List ℕ → List ℕ
mark_tag tag i t close = tag ++ (attributes_bytes (mark_attributes i t) ++ close)

-- a character's number has four hexadecimal digits
abbrev pub FourDigits : Item → Type 0
FourDigits (text c) = Unit {0}
FourDigits (character c) = c < 65536
FourDigits (standalone f) = Unit {0}
FourDigits (isolated h f) = Unit {0}
FourDigits (pair h w f) = Unit {0}
FourDigits (annotation_start w i t) = Unit {0}
FourDigits (annotation_end w i) = Unit {0}

-- an item is written, in front of any content of whose ends the first pending has this dataRef
abbrev pub WroteItem : Item → ℕ → Draft → Draft → Type 0
WroteItem x end_data draft draft' =
    (after : Content) → first_data (pending after) ≡ end_data → Wrote (item_text x after) draft draft'
