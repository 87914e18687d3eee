-- A source or a target: its start tag, its content and its end tag.
use Prim.Native.Nat.{ℕ, ◌≤◌}
use mathlib.Core.Path.{◌≡◌, refl, sym, ap, subst, ◌∙◌}
use mathlib.Core.Bool.{Bool, true, false, ◌&&◌}
use mathlib.Core.List.{List, [], ◌∷◌, ◌++◌}
use mathlib.Core.Option.{none, some}
use native.Mathlib.Omega.{arith}
use lib.ListN.{length}
use lib.Dec.{eqb}
use borrow.Author.Tests.{ne_eqb}
use Rattle.std.specs.Prelude.{Result, Ok, Err, Option as RustOption, Some, None}
use Rattle.xliff.specs.Bytes.{equal, any}
use Rattle.xliff.specs.Encode.{Record, target_head}
use Rattle.xliff.specs.Good.{part_heads}
use Rattle.xliff.specs.Parse.{is_part}
use Rattle.xliff.proofs.lists.Tests.{and_left}
use Rattle.xliff.proofs.unit.Valid.{heads_append}
use Rattle.xml.specs.Words.{'source', 'target'}
use Rattle.xml.specs.Tokens.{Attribute, Token, start_tag}
use Rattle.xml.specs.Attributes.{only, named}
use Rattle.xml.specs.Elements.{Due, source_due, target_due, Side, outside, in_content, target_order, behind, elements}
use Rattle.xml.proofs.ContentLaws.{behind_append, behind_nil}
use Rattle.table_builder.specs.declared.TableBuilder.{TableBuilder}
use Rattle.xml_attribute.specs.Attribute.{short_form}
use Rattle.xml_attributes.specs.declared.Tagged.{Tagged}
use Rattle.xml_attributes.specs.Tags.{WholeTag}
use Rattle.xml_slots.specs.Slots.{ByAttributes}
use Rattle.xml_heads.specs.Meanings.{order_meaning, OrderRead}
use Rattle.xml_piece.specs.Pieces.{rest_at, Ahead}
use Rattle.xml_passages.specs.Passages.{Passage, Blames, Leads}
use Rattle.xml_passages.proofs.OuterLaws.{source_side, target_side, source_opens, no_source, target_opens, no_target, bad_target, side_closed, side_bad}
use Rattle.xml_records.specs.Collecting.{Collects}
use Rattle.xml_records.proofs.CollectLaws.{collects_none, collects_both_in_loan}
use Rattle.xml_element.specs.declared.Blamed.{Blamed}
use Rattle.xml_element.specs.declared.StartTag.{StartTag}
use Rattle.xml_element.specs.declared.EndTag.{EndTag}
use Rattle.xml_element.specs.Opens.{blamed_at, spelled, start_tokens, end_tokens, after_tag}
use Rattle.xml_content.specs.Contents.{ContentClosed}
use Rattle.xml_part.proofs.TagSteps.{tag_goes, tag_same, tag_told}
use Rattle.xml_part.specs.Parts.{order_or, SideSteps, SideRead, Steps, SourceSteps, TargetSteps}

-- In the short form the end tag is that of the start tag
module _ (text : List ℕ) (next : ℕ) (word : List ℕ) (inside : next ≤ length text) where
  short_form_side : (builder : TableBuilder) → SideRead text next true word builder builder (Ok next)
  unfolding SideRead short_form
  short_form_side builder side place name ats w e = (
    omega arith,
    inside,
    record {
      records = [];
      no_part = unfold part_heads in refl;
      passage =
          side_closed side place name (rest_at text next) (subst (λ (n : List ℕ). equal name n ≡ true) (sym w) e)
          ∙ sym (behind_nil (elements (outside side.behind) (rest_at text next)));
      collects = collects_none;
    },
  )

  pub short_side : {short : Bool} (builder : TableBuilder) → short ≡ true → SideRead text next short word builder builder (Ok next)
  short_side {short} builder is =
      subst (λ (s : Bool). SideRead text next s word builder builder (Ok next)) (sym is) (short_form_side builder)

-- else a content stands there: with the end tag of the side, or of another name; or at fault
module _ (text : List ℕ) (next : ℕ) (word : List ℕ) {short : Bool} (long : short ≡ false) where
  -- behind the start tag the content begins
  after_is : (place : ℕ) (name : List ℕ) (ats : List Attribute) → after_tag text short place name ats next ≡ rest_at text next
  unfolding short_form
  after_is place name ats = ap (λ (s : Bool). after_tag text s place name ats next) long

  pub side_at_fault : (builder builder' : TableBuilder) (b : Blamed) → Blames 32 (rest_at text next) b.place
      → SideRead text next short word builder builder' (Err b)
  unfolding SideRead Blames
  side_at_fault builder builder' b k side place name ats w f = ap (elements (in_content side [])) (after_is place name ats) ∙ k side [] refl

  module _ {builder builder' : TableBuilder} (end : EndTag) (k : ContentClosed text next 32 builder end builder') where
    to_end : (side : Side) (place : ℕ) (name : List ℕ) (ats : List Attribute)
        → elements (in_content side []) (after_tag text short place name ats next)
        ≡ behind k.records (elements (in_content side []) (end_tokens text end))
    unfolding Passage
    to_end side place name ats = ap (elements (in_content side [])) (after_is place name ats) ∙ k.passage side [] refl

    pub side_ends : equal (spelled text end.name) word ≡ true → SideRead text next short word builder builder' (Ok end.next)
    unfolding SideRead
    side_ends same side place name ats w f =
        let goes = k.ends.goes in
        let closed =
        side_closed side end.place (spelled text end.name) (rest_at text end.next)
        (subst (λ (n : List ℕ). equal (spelled text end.name) n ≡ true) (sym w) same) in (
          omega (arith, goes.ahead),
          goes.inside,
          record {
            records = k.records;
            no_part = k.no_part;
            passage = to_end side place name ats ∙ ap (behind k.records) closed;
            collects = k.collects;
          },
        )

    pub side_other : equal (spelled text end.name) word ≡ false
        → SideRead text next short word builder builder' (Err (blamed_at end.place))
    unfolding SideRead behind
    side_other other side place name ats w f =
        let bad_end =
        side_bad side end.place (spelled text end.name) (rest_at text end.next)
        (subst (λ (n : List ℕ). equal (spelled text end.name) n ≡ false) (sym w) other) in
        to_end side place name ats ∙ ap (behind k.records) bad_end

-- From the start tag of a source or a target into its content, with records that head no part
module _ (text : List ℕ) (upto next : ℕ) (d : Due) (a b : List Token) (side : Side) (rs : List Record)
    {builder builder₁ : TableBuilder} (goes : Ahead text upto next)
    (opens : elements (outside d) a ≡ behind rs (elements (in_content side []) b)) (none : part_heads rs ≡ 0)
    (put : Collects rs builder builder₁) where
  side_steps : (builder₂ : TableBuilder) (w : Result ℕ Blamed) → SideSteps text next side b builder₁ builder₂ w
      → Steps text upto d a 0 side.behind builder builder₂ w
  unfolding Leads
  side_steps builder₂ (Ok further) (low, high, k) = (
    record { ahead = omega (arith, goes.ahead, low); inside = high },
    record {
      records = rs ++ k.records;
      heads_are = omega (arith, heads_append rs k.records, none, k.no_part);
      leads =
          opens ∙ ap (behind rs) k.passage
          ∙ behind_append rs k.records (elements (outside side.behind) (rest_at text further));
      collects = collects_both_in_loan put k.collects;
    },
  )
  side_steps builder₂ (Err p) e = opens ∙ ap (behind rs) e ∙ (unfold behind in refl)

only_none : (ats : List Attribute) → only [] ats ≡ eqb (length ats) 0
unfolding only named any
only_none [] = refl
only_none (a ∷ ats) = sym (ne_eqb (length (a ∷ ats)) 0 (λ z. omega arith))

module _ (text : List ℕ) (tag : StartTag) (slots : List ℕ) (t : Tagged)
    (w : WholeTag text tag.name.upto slots t.next t.short t.count) where
  abbrev ats : List Attribute
  ats = w.attributes

  abbrev name : List ℕ
  name = spelled text tag.name

  abbrev after : List Token
  after = after_tag text t.short tag.place name ats t.next

  abbrev opens : start_tokens text tag ≡ start_tag tag.place name ats ∷ after
  opens = tag_same text tag slots t w

  -- a source's: its name, and no attribute
  without : only [] ats ≡ eqb t.count 0
  without = only_none ats ∙ ap (λ (n : ℕ). eqb n 0) (sym w.slotted.counted)

  pub source_read : (builder builder' : TableBuilder) (r : Result ℕ Blamed) → equal name 'source' && eqb t.count 0 ≡ true
      → SideRead text t.next t.short 'source' builder builder' r
      → SourceSteps text tag.name.upto (start_tokens text tag) builder builder' r
  unfolding SourceSteps SideRead
  source_read builder builder' r same k i p =
      let side = source_side tag.place name ats after i p in
      side_steps text tag.name.upto t.next (source_due i p) (start_tokens text tag) after side [] (tag_goes text tag slots t w)
      (ap (elements (outside (source_due i p))) opens
      ∙ source_opens tag.place name ats after i p (ap (λ (b : Bool). equal name 'source' && b) without ∙ same)
      ∙ sym (behind_nil (elements (in_content side []) after)))
      (unfold part_heads in refl) (collects_none {builder = builder}) builder' r
      (k side tag.place name ats refl (and_left (equal name 'source') (eqb t.count 0) same))

  pub source_bad : (builder builder' : TableBuilder) → equal name 'source' && eqb t.count 0 ≡ false
      → SourceSteps text tag.name.upto (start_tokens text tag) builder builder' (Err (blamed_at tag.place))
  unfolding SourceSteps
  source_bad builder builder' other i p =
      ap (elements (outside (source_due i p))) opens
      ∙ no_source tag.place name ats after i p (ap (λ (b : Bool). equal name 'source' && b) without ∙ other)

  -- a target's: its name, and its order
  pub target_bad : (builder builder' : TableBuilder) (position : ℕ) → equal name 'target' ≡ false
      → TargetSteps text tag.name.upto position (start_tokens text tag) builder builder' (Err (blamed_at tag.place))
  unfolding TargetSteps
  target_bad builder builder' position other p =
      ap (elements (outside (target_due position p))) opens ∙ no_target tag.place name ats after position p other

  module _ (same : equal name 'target' ≡ true) where
    pub order_bad : (builder builder' : TableBuilder) (position : ℕ) → OrderRead slots t.count None
        → TargetSteps text tag.name.upto position (start_tokens text tag) builder builder' (Err (blamed_at tag.place))
    unfolding TargetSteps
    order_bad builder builder' position k p =
        ap (elements (outside (target_due position p))) opens
        ∙ bad_target tag.place name ats after position p same (tag_told text tag slots t w (target_order position) none (k position))

    order_is : (position : ℕ) (o : RustOption ℕ) → order_meaning position (Some o) ≡ some (order_or o position)
    order_is position (Some q) = refl
    order_is position None = refl

    pub target_read : {builder builder₁ : TableBuilder} (builder₂ : TableBuilder) (position : ℕ) (o : RustOption ℕ) (r : Result ℕ Blamed)
        → OrderRead slots t.count (Some o)
        → Collects (target_head (order_or o position) ∷ []) builder builder₁
        → SideRead text t.next t.short 'target' builder₁ builder₂ r
        → TargetSteps text tag.name.upto position (start_tokens text tag) builder builder₂ r
    unfolding TargetSteps SideRead
    target_read builder₂ position o r k put s p =
        let side = target_side tag.place name ats after position p in
        let q = order_or o position in
        let ordered =
        tag_told text tag slots t w (target_order position) (order_meaning position (Some o)) (k position)
        ∙ order_is position o in
        side_steps text tag.name.upto t.next (target_due position p) (start_tokens text tag) after side (target_head q ∷ [])
        (tag_goes text tag slots t w)
        (ap (elements (outside (target_due position p))) opens
        ∙ target_opens tag.place name ats after position q p same ordered)
        (unfold part_heads is_part in refl) put builder₂ r (s side tag.place name ats refl same)
