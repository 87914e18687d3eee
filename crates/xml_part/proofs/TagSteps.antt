-- A start tag outside of contents, as its attributes are read.
use Prim.Native.Nat.{ℕ}
use mathlib.Core.Path.{◌≡◌, refl, sym, ap, ◌∙◌}
use mathlib.Core.List.{List, [], ◌∷◌}
use lib.ListN.{length}
use Rattle.xml.specs.Tokens.{Attribute, start_tag}
use Rattle.xml.specs.Elements.{Due, unit_due, part_due, source_due, target_due, part_end_due, outside, turn, finished, cut_short, bad, elements}
use Rattle.xml_attributes.specs.declared.Tagged.{Tagged}
use Rattle.xml_attributes.specs.Tags.{WholeTag}
use Rattle.xml_slots.specs.Slots.{SomeSlots, ByAttributes}
use Rattle.xml_piece.specs.Pieces.{Ahead}
use Rattle.xml_element.specs.declared.StartTag.{StartTag}
use Rattle.xml_element.specs.Opens.{spelled, start_tokens, after_tag, TagFaulty}
use Rattle.xml_part.specs.Parts.{TagDue}

-- before the end of the unit a tag is due
module _ {text : List ℕ} where
  pub unit_tag : TagDue text unit_due
  unit_tag = record { cut = λ place. unfold cut_short in refl; over = λ place. unfold finished in refl }

  pub part_tag : (k : ℕ) → TagDue text (part_due k)
  part_tag k = record { cut = λ place. unfold cut_short in refl; over = λ place. unfold finished in refl }

  module _ (k : ℕ) (p : List ℕ) where
    pub source_tag : TagDue text (source_due k p)
    source_tag = record { cut = λ place. unfold cut_short in refl; over = λ place. unfold finished in refl }

    pub target_tag : TagDue text (target_due k p)
    target_tag = record { cut = λ place. unfold cut_short in refl; over = λ place. unfold finished in refl }

    pub part_end_tag : TagDue text (part_end_due k p)
    part_end_tag = record { cut = λ place. unfold cut_short in refl; over = λ place. unfold finished in refl }

module _ (text : List ℕ) (tag : StartTag) where
  pub tag_bad : {p : ℕ} → TagFaulty text tag p → (d : Due) → TagDue text d → elements (outside d) (start_tokens text tag) ≡ bad p
  unfolding TagFaulty turn
  tag_bad k d due = k (spelled text tag.name) (outside d) (due.cut tag.place)

  -- a whole one
  module _ (slots : List ℕ) (t : Tagged) (w : WholeTag text tag.name.upto slots t.next t.short t.count) where
    pub tag_goes : Ahead text tag.name.upto t.next
    tag_goes = record { ahead = w.ahead; inside = w.inside }

    pub some_slots : SomeSlots slots t.count
    some_slots = record { attributes = w.attributes; slotted = w.slotted }

    pub tag_same : start_tokens text tag
        ≡ start_tag tag.place (spelled text tag.name) w.attributes
        ∷ after_tag text t.short tag.place (spelled text tag.name) w.attributes t.next
    tag_same = w.same tag.place (spelled text tag.name)

    -- what the code tells by the slots
    module _ {A : Type 0} where
      pub tag_told : (f : List Attribute → A) (x : A) → ByAttributes slots t.count f x → f w.attributes ≡ x
      unfolding ByAttributes
      tag_told f x k = sym (k w.attributes w.slotted)
