-- What is read of a start tag in a content, and of an empty element. Stepping stones.
use Rattle.std.specs.Prelude.{ℕ, ◌≤◌, ◌≡◌, Bool, List, ◌∷◌, ◌++◌, length, Result, Ok, Err}
use Rattle.std.proofs.Math.Option.{some}
use Rattle.xliff.specs.Encode.{Record}
use Rattle.xliff.specs.Good.{part_heads}
use Rattle.xml.specs.Tokens.{Attribute, Token, start_tag, end_tag, cut_tag}
use Rattle.xml.specs.Elements.{nested, inline_of_name, Where, blame, turn, bad, elements}
use Rattle.table.specs.Meaning.{item}
use Rattle.table_builder.specs.declared.TableBuilder.{TableBuilder}
use Rattle.xml_names.specs.declared.Span.{Span}
use Rattle.xml_names.specs.Names.{bytes_between, NameIn}
use Rattle.xml_attribute.specs.Attribute.{short_form}
use Rattle.xml_attributes.specs.declared.Tagged.{Tagged}
use Rattle.xml_attributes.specs.Tags.{WholeTag}
use Rattle.xml_piece.specs.Pieces.{rest_at, tag_at, Ahead}
use Rattle.xml_passages.specs.Passages.{Passage, Blames, Empties, EmptyBlames}
use Rattle.xml_records.specs.Collecting.{Collects}
use Rattle.xml_element.specs.declared.Blamed.{Blamed}
use Rattle.xml_element.specs.declared.StartTag.{StartTag}
use Rattle.xml_element.specs.declared.EndTag.{EndTag}
use Rattle.xml_element.specs.declared.NestedTag.{NestedTag}
use Rattle.xml_element.specs.declared.Opened.{Opened}
use Rattle.xml_element.specs.declared.Opened.TheVariants.{Single, Nested}

-- a place at fault
abbrev pub blamed_at : ℕ → Blamed
blamed_at p = record { place = p }

-- the bytes of a name
abbrev pub spelled : List ℕ → Span → List ℕ
spelled text name = bytes_between text name.from name.upto

-- a start tag and an end tag stand in the text with their names
abbrev pub TagIn : List ℕ → StartTag → Type 0
TagIn text tag = NameIn text tag.name.from tag.name.upto

abbrev pub EndNameIn : List ℕ → EndTag → Type 0
EndNameIn text end = NameIn text end.name.from end.name.upto

-- a start tag from behind its name on, and what stands behind it
abbrev pub start_tokens : List ℕ → StartTag → List Token
start_tokens text tag = tag_at text tag.place (spelled text tag.name) tag.name.upto

-- an end tag and what stands behind it
abbrev pub end_tokens : List ℕ → EndTag → List Token
end_tokens text end = end_tag end.place (spelled text end.name) ∷ rest_at text end.next

pub record EndTagIn (text : List ℕ) (at : ℕ) (end : EndTag) : Type 0 where
  pub goes : Ahead text at end.next
  pub name : EndNameIn text end

-- behind a whole start tag: its end tag where it is in the short form, and the text from `next` on
abbrev pub after_tag : List ℕ → Bool → ℕ → List ℕ → List Attribute → ℕ → List Token
after_tag text short place name ats next =
    short_form short (record { place = place; name = name; attributes = ats }) ++ rest_at text next

-- a start tag at fault, wherever one that is cut is blamed at the text's end
unfoldable pub TagFaulty : List ℕ → StartTag → ℕ → Type 0
TagFaulty text tag p =
    (name : List ℕ) (w : Where) → turn w (cut_tag tag.place (length text)) ≡ blame (length text)
    → elements w (tag_at text tag.place name tag.name.upto) ≡ bad p

abbrev pub AttributesRead : List ℕ → StartTag → List ℕ → Result Tagged Blamed → Type 0
AttributesRead text tag slots (Ok tagged) = WholeTag text tag.name.upto slots tagged.next tagged.short tagged.count
AttributesRead text tag slots (Err blamed) = TagFaulty text tag blamed.place

-- a start tag that is blamed wherever it is whole, and at the text's end where that cuts it
unfoldable pub TagBlamed : List ℕ → StartTag → ℕ → Type 0
TagBlamed text tag p =
    (name : List ℕ) (w : Where) → ((ats : List Attribute) → turn w (start_tag tag.place name ats) ≡ blame tag.place)
    → turn w (cut_tag tag.place (length text)) ≡ blame (length text)
    → elements w (tag_at text tag.place name tag.name.upto) ≡ bad p

-- an empty element, from behind its start tag on
abbrev pub EmptyRead : List ℕ → List ℕ → ℕ → List Token → Result ℕ Blamed → Type 0
EmptyRead text name at a (Ok next) = (at ≤ next) × (next ≤ length text) × Empties name a (rest_at text next)
EmptyRead text name at a (Err blamed) = EmptyBlames name a blamed.place

-- whatever its start tag's place and attributes are
unfoldable pub SingleRead : List ℕ → List ℕ → ℕ → Bool → Result ℕ Blamed → Type 0
SingleRead text name next short r =
    (place : ℕ) (ats : List Attribute) → EmptyRead text name next (after_tag text short place name ats next) r

-- an empty element, from behind its name on
pub record SingleOn (text : List ℕ) (tag : StartTag) (builder : TableBuilder) (next : ℕ) (builder' : TableBuilder) : Type 0 where
  pub records : List Record
  pub no_part : part_heads records ≡ 0
  pub goes : Ahead text tag.name.upto next
  pub passage : (depth : ℕ) → Passage depth (start_tokens text tag) records (rest_at text next)
  pub collects : Collects records builder builder'

-- the start tag of an element with content
pub record NestedRead (text : List ℕ) (tag : StartTag) (opened : NestedTag) : Type 0 where
  pub attributes : List Attribute
  pub goes : Ahead text tag.name.upto opened.next
  pub is : inline_of_name (spelled text tag.name) attributes ≡ some (nested (item opened.start) (item opened.end))
  pub same : start_tokens text tag
      ≡ start_tag tag.place (spelled text tag.name) attributes
      ∷ after_tag text opened.short tag.place (spelled text tag.name) attributes opened.next

abbrev pub OpenRead : List ℕ → StartTag → TableBuilder → TableBuilder → Result Opened Blamed → Type 0
OpenRead text tag builder builder' (Ok (Single next)) = SingleOn text tag builder next builder'
OpenRead text tag builder builder' (Ok (Nested opened)) = (builder' ≡ builder) × NestedRead text tag opened
OpenRead text tag builder builder' (Err blamed) = (depth : ℕ) → Blames depth (start_tokens text tag) blamed.place
