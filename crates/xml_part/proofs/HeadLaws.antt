-- The start tag of a part.
use Prim.Native.Nat.{ℕ, suc}
use mathlib.Core.Path.{◌≡◌, refl, ap, ◌∙◌}
use mathlib.Core.Bool.{Bool, true, false}
use mathlib.Core.List.{List, [], ◌∷◌}
use mathlib.Core.Option.{Option, none, some}
use Rattle.std.specs.Prelude.{Ok, Err, Some}
use Rattle.xliff.specs.Unit as xliff
use Rattle.xliff.specs.Unit.{segment, ignorable}
use Rattle.xliff.specs.Encode.{Record, part_head}
use Rattle.xliff.specs.Good.{part_heads}
use Rattle.xliff.specs.Parse.{is_part}
use Rattle.xml.specs.Tokens.{Attribute, Token, start_tag, end_tag}
use Rattle.xml.specs.Elements.{part_of_name, Due, part_due, source_due, outside, closed, bad, elements}
use Rattle.table.specs.Meaning.{segment_meaning}
use Rattle.table_builder.specs.declared.TableBuilder.{TableBuilder}
use Rattle.xml_attribute.specs.Attribute.{short_form}
use Rattle.xml_attributes.specs.declared.Tagged.{Tagged}
use Rattle.xml_attributes.specs.Tags.{WholeTag}
use Rattle.xml_heads.specs.declared.Head.{Head}
use Rattle.xml_heads.specs.declared.Head.TheVariants.{Segment as ASegment, Ignorable}
use Rattle.xml_heads.specs.Meanings.{head_meaning}
use Rattle.xml_slots.specs.Slots.{ByAttributes}
use Rattle.xml_piece.specs.Pieces.{rest_at}
use Rattle.xml_passages.specs.Passages.{Leads}
use Rattle.xml_passages.proofs.OuterLaws.{leads_bad, closed_bad, part_opens, bad_part}
use Rattle.xml_records.specs.Collecting.{Collects}
use Rattle.xml_element.specs.declared.StartTag.{StartTag}
use Rattle.xml_element.specs.Opens.{blamed_at, spelled, start_tokens, after_tag}
use Rattle.xml_part.specs.Parts.{HeadPut, HeadSteps}
use Rattle.xml_part.proofs.TagSteps.{tag_goes, tag_same, tag_told}

-- a part in the short form has no source
no_source_in : (place : ℕ) (name : List ℕ) (ats : List Attribute) (ts : List Token) (k : ℕ) (o : Option xliff.Head)
    → part_of_name name ats ≡ o
    → elements (outside (part_due k)) (start_tag place name ats ∷ end_tag place name ∷ ts) ≡ bad place
unfolding closed
no_source_in place name ats ts k none e = bad_part place name ats (end_tag place name ∷ ts) k e
no_source_in place name ats ts k (some h) e =
    leads_bad (part_due k) (source_due (suc k) name) (start_tag place name ats ∷ end_tag place name ∷ ts)
    (end_tag place name ∷ ts) (part_head h ∷ []) place (part_opens place name ats (end_tag place name ∷ ts) k h e)
    (closed_bad place name ts (source_due (suc k) name) refl)

leads_as : (d d' : Due) (a b c : List Token) (rs : List Record) → a ≡ b → Leads d b rs d' c → Leads d a rs d' c
unfolding Leads
leads_as d d' a b c rs e l = ap (elements (outside d)) e ∙ l

module _ (text : List ℕ) (tag : StartTag) (slots : List ℕ) (t : Tagged)
    (w : WholeTag text tag.name.upto slots t.next t.short t.count) where
  abbrev ats : List Attribute
  ats = w.attributes

  abbrev name : List ℕ
  name = spelled text tag.name

  abbrev opens : Bool → List Token
  opens s = start_tag tag.place name ats ∷ after_tag text s tag.place name ats t.next

  whole : (s : Bool) → t.short ≡ s → start_tokens text tag ≡ opens s
  whole s k = tag_same text tag slots t w ∙ ap opens k

  pub head_short : (builder builder' : TableBuilder) → t.short ≡ true
      → HeadSteps text tag.name.upto name (start_tokens text tag) builder builder' (Err (blamed_at tag.place))
  unfolding HeadSteps short_form
  head_short builder builder' is k =
      ap (elements (outside (part_due k))) (whole true is)
      ∙ no_source_in tag.place name ats (rest_at text t.next) k (part_of_name name ats) refl

  module _ (long : t.short ≡ false) where
    pub head_bad : (builder builder' : TableBuilder) → ByAttributes slots t.count (part_of_name name) none
        → HeadSteps text tag.name.upto name (start_tokens text tag) builder builder' (Err (blamed_at tag.place))
    unfolding HeadSteps
    head_bad builder builder' told k =
        ap (elements (outside (part_due k))) (whole false long)
        ∙ bad_part tag.place name ats (after_tag text false tag.place name ats t.next) k
        (tag_told text tag slots t w (part_of_name name) none told)

    headed : {builder builder' : TableBuilder} (x : xliff.Head) → ByAttributes slots t.count (part_of_name name) (some x)
        → Collects (part_head x ∷ []) builder builder'
        → HeadSteps text tag.name.upto name (start_tokens text tag) builder builder' (Ok t.next)
    unfolding HeadSteps short_form
    headed x told put k = (
      tag_goes text tag slots t w,
      record {
        records = part_head x ∷ [];
        heads_are = unfold part_heads is_part in refl;
        leads =
            leads_as (part_due k) (source_due (suc k) name) (start_tokens text tag) (opens false) (rest_at text t.next)
            (part_head x ∷ []) (whole false long)
            (part_opens tag.place name ats (rest_at text t.next) k x
            (tag_told text tag slots t w (part_of_name name) (some x) told));
        collects = put;
      },
    )

    pub head_read : {builder builder' : TableBuilder} (h : Head)
        → ByAttributes slots t.count (part_of_name name) (head_meaning (Some h)) → HeadPut h builder builder'
        → HeadSteps text tag.name.upto name (start_tokens text tag) builder builder' (Ok t.next)
    head_read (ASegment f) told put = headed (segment (segment_meaning f)) told (put _ refl)
    head_read (Ignorable i) told put = headed (ignorable i) told (put _ refl)
