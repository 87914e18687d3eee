-- A start tag in a content: what it opens.
use Prim.Native.Nat.{ℕ}
use mathlib.Core.Path.{◌≡◌, refl, sym, ◌∙◌}
use mathlib.Core.List.{List, [], ◌∷◌}
use mathlib.Core.Option.{Option, none, some}
use native.Mathlib.Omega.{arith}
use Rattle.std.specs.Prelude.{Ok, Err}
use Rattle.xliff.specs.Encode.{inline}
use Rattle.xliff.specs.Good.{part_heads}
use Rattle.xliff.specs.Parse.{is_part}
use Rattle.xml.specs.Tokens.{Attribute, Token, start_tag}
use Rattle.xml.specs.Elements as xml
use Rattle.xml.specs.Elements.{single, nested, inline_of_name, turn, in_content}
use Rattle.table.specs.Meaning.{item}
use Rattle.table.specs.declared.Item.{Item}
use Rattle.table_builder.specs.declared.TableBuilder.{TableBuilder}
use Rattle.xml_slots.specs.Slots.{ByAttributes}
use Rattle.xml_attributes.specs.declared.Tagged.{Tagged}
use Rattle.xml_attributes.specs.Tags.{WholeTag}
use Rattle.xml_piece.specs.Pieces.{rest_at}
use Rattle.xml_passages.specs.Passages.{Blames}
use Rattle.xml_passages.proofs.PassageLaws.{passage_as, blames_as, bad_element, single_passage, single_blames}
use Rattle.xml_records.specs.Collecting.{Collects}
use Rattle.xml_element.specs.declared.Blamed.{Blamed}
use Rattle.xml_element.specs.declared.StartTag.{StartTag}
use Rattle.xml_element.specs.declared.Opened.TheVariants.{Single as OneOpened, Nested as NestedOpened}
use Rattle.xml_element.specs.Opens.{spelled, start_tokens, after_tag, TagFaulty, EmptyRead, SingleRead, OpenRead}

module _ (text : List ℕ) (tag : StartTag) where
  abbrev name : List ℕ
  name = spelled text tag.name

  -- the tag is at fault or cut
  pub faulty_open : (b : Blamed) → TagFaulty text tag b.place → (depth : ℕ) → Blames depth (start_tokens text tag) b.place
  unfolding TagFaulty Blames turn
  faulty_open b k depth side opens e = k name (in_content side opens) refl

  module _ (slots : List ℕ) (t : Tagged) (w : WholeTag text tag.name.upto slots t.next t.short t.count) where
    abbrev ats : List Attribute
    ats = w.attributes

    abbrev behind_tag : List Token
    behind_tag = after_tag text t.short tag.place name ats t.next

    abbrev opens : List Token
    opens = start_tag tag.place name ats ∷ behind_tag

    same : start_tokens text tag ≡ opens
    same = w.same tag.place name

    is : (o : Option xml.Inline) → ByAttributes slots t.count (inline_of_name name) o → inline_of_name name ats ≡ o
    unfolding ByAttributes
    is o r = sym (r ats w.slotted)

    pub bad_open : ByAttributes slots t.count (inline_of_name name) none
        → (depth : ℕ) → Blames depth (start_tokens text tag) tag.place
    bad_open r depth =
        blames_as depth (start_tokens text tag) opens tag.place same
        (bad_element depth tag.place name ats behind_tag (is none r))

    pub nested_open : {builder : TableBuilder} (x y : Item)
        → ByAttributes slots t.count (inline_of_name name) (some (nested (item x) (item y)))
        → OpenRead text tag builder builder (Ok (NestedOpened (record { start = x; end = y; next = t.next; short = t.short })))
    nested_open x y r = (
      refl,
      record {
        attributes = ats;
        goes = record { ahead = w.ahead; inside = w.inside };
        is = is (some (nested (item x) (item y))) r;
        same = same;
      },
    )

    module _ (x : Item) (r : ByAttributes slots t.count (inline_of_name name) (some (single (item x)))) where
      pub single_open : {builder builder' : TableBuilder} (behind : ℕ) → SingleRead text name t.next t.short (Ok behind)
          → Collects (inline (item x) ∷ []) builder builder' → OpenRead text tag builder builder' (Ok (OneOpened behind))
      unfolding SingleRead
      single_open behind k put =
          let ends = k tag.place ats in
          record {
            records = inline (item x) ∷ [];
            no_part = unfold part_heads is_part in refl;
            goes = record { ahead = omega (arith, w.ahead, ends.0); inside = ends.1 };
            passage = λ depth.
                passage_as depth (start_tokens text tag) opens (rest_at text behind) (inline (item x) ∷ []) same
                (single_passage depth tag.place name ats behind_tag (item x) (rest_at text behind)
                (is (some (single (item x))) r) ends.2);
            collects = put;
          }

      pub single_bad : (b : Blamed) → SingleRead text name t.next t.short (Err b)
          → (depth : ℕ) → Blames depth (start_tokens text tag) b.place
      unfolding SingleRead
      single_bad b k depth =
          blames_as depth (start_tokens text tag) opens b.place same
          (single_blames depth tag.place name ats behind_tag (item x) b.place (is (some (single (item x))) r) (k tag.place ats))
