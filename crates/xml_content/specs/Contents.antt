-- What is read of a content and of an element in it. Stepping stones.
use Rattle.std.specs.Prelude.{ℕ, ◌≡◌, true, false, List, [], ◌∷◌, Result, Ok, Err}
use Rattle.xliff.specs.Bytes.{equal}
use Rattle.xliff.specs.Encode.{Record, inline}
use Rattle.xliff.specs.Good.{part_heads}
use Rattle.xml_passages.specs.Passages.{Passage, Blames}
use Rattle.table.specs.Meaning.{item}
use Rattle.table.specs.declared.Item.{Item}
use Rattle.table_builder.specs.declared.TableBuilder.{TableBuilder}
use Rattle.xml_piece.specs.Pieces.{rest_at, Ahead}
use Rattle.xml_records.specs.Collecting.{Collects}
use Rattle.xml_element.specs.declared.Blamed.{Blamed}
use Rattle.xml_element.specs.declared.StartTag.{StartTag}
use Rattle.xml_element.specs.declared.EndTag.{EndTag}
use Rattle.xml_element.specs.Opens.{spelled, TagIn, start_tokens, end_tokens, EndTagIn}
use Rattle.xml_content.specs.declared.Stepped.{Stepped}
use Rattle.xml_content.specs.declared.Stepped.TheVariants.{On, Tag, End}

-- one piece of a content
pub record PieceOn (text : List ℕ) (at : ℕ) (builder : TableBuilder) (next : ℕ) (builder' : TableBuilder) : Type 0 where
  pub records : List Record
  pub no_part : part_heads records ≡ 0
  pub goes : Ahead text at next
  pub passage : (depth : ℕ) → Passage depth (rest_at text at) records (rest_at text next)
  pub collects : Collects records builder builder'

abbrev pub StepRead : List ℕ → ℕ → TableBuilder → TableBuilder → Result Stepped Blamed → Type 0
StepRead text at builder builder' (Ok (On next)) = PieceOn text at builder next builder'
StepRead text at builder builder' (Ok (Tag tag)) =
    (builder' ≡ builder) × Ahead text at tag.name.upto × TagIn text tag × (rest_at text at ≡ start_tokens text tag)
StepRead text at builder builder' (Ok (End end)) =
    (builder' ≡ builder) × EndTagIn text at end × (rest_at text at ≡ end_tokens text end)
StepRead text at builder builder' (Err blamed) = (depth : ℕ) → Blames depth (rest_at text at) blamed.place

-- behind the content of an element of this name
abbrev pub CloseRead : List ℕ → List ℕ → EndTag → Item → TableBuilder → TableBuilder → Result ℕ Blamed → Type 0
CloseRead text name end last builder builder' (Ok next) =
    (next ≡ end.next) × (equal (spelled text end.name) name ≡ true) × Collects (inline (item last) ∷ []) builder builder'
CloseRead text name end last builder builder' (Err blamed) =
    (blamed.place ≡ end.place) × (equal (spelled text end.name) name ≡ false)

-- an element, from behind its name on
pub record ElementOn (text : List ℕ) (tag : StartTag) (depth : ℕ) (builder : TableBuilder) (next : ℕ)
    (builder' : TableBuilder) : Type 0 where
  pub records : List Record
  pub no_part : part_heads records ≡ 0
  pub goes : Ahead text tag.name.upto next
  pub passage : Passage depth (start_tokens text tag) records (rest_at text next)
  pub collects : Collects records builder builder'

abbrev pub ElementRead : List ℕ → StartTag → ℕ → TableBuilder → TableBuilder → Result ℕ Blamed → Type 0
ElementRead text tag depth builder builder' (Ok next) = ElementOn text tag depth builder next builder'
ElementRead text tag depth builder builder' (Err blamed) = Blames depth (start_tokens text tag) blamed.place

-- a content, up to the end tag behind it
pub record ContentClosed (text : List ℕ) (start depth : ℕ) (builder : TableBuilder) (end : EndTag)
    (builder' : TableBuilder) : Type 0 where
  pub records : List Record
  pub no_part : part_heads records ≡ 0
  pub ends : EndTagIn text start end
  pub passage : Passage depth (rest_at text start) records (end_tokens text end)
  pub collects : Collects records builder builder'

abbrev pub ContentRead : List ℕ → ℕ → ℕ → TableBuilder → TableBuilder → Result EndTag Blamed → Type 0
ContentRead text start depth builder builder' (Ok end) = ContentClosed text start depth builder end builder'
ContentRead text start depth builder builder' (Err blamed) = Blames depth (rest_at text start) blamed.place
