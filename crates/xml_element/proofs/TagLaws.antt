-- A start tag by its attributes: whole, cut or at fault.
use Prim.Native.Nat.{ℕ}
use mathlib.Core.Path.{◌≡◌, ap, ◌∙◌}
use mathlib.Core.List.{List, [], ◌∷◌}
use lib.ListN.{length}
use Rattle.std.specs.Prelude.{Ok, Err}
use Rattle.xml.specs.Tokens.{start_tag, cut_tag}
use Rattle.xml.specs.Elements.{elements}
use Rattle.xml_front.specs.declared.Flaw.{Flaw}
use Rattle.xml_front.specs.declared.Flaw.TheVariants.{Cut, Wrong}
use Rattle.xml_front.specs.Fronts.{place_blamed}
use Rattle.xml_attributes.specs.declared.Tagged.{Tagged}
use Rattle.xml_attributes.specs.Tags.{WholeTag, TagRead}
use Rattle.xml_piece.specs.Pieces.{tag_at}
use Rattle.xml_passages.proofs.PassageLaws.{turns_bad}
use Rattle.xml_element.specs.declared.Blamed.{Blamed}
use Rattle.xml_element.specs.declared.StartTag.{StartTag}
use Rattle.xml_element.specs.Opens.{after_tag, TagFaulty, AttributesRead, TagBlamed}

module _ (text : List ℕ) (tag : StartTag) where
  -- (what the slots hold does not matter)
  pub tag_flawed : (f : Flaw) → TagRead text tag.name.upto [] (Err f)
      → TagFaulty text tag (place_blamed f tag.place (length text))
  unfolding TagFaulty
  tag_flawed Cut k name w cut = ap (elements w) (k tag.place name) ∙ turns_bad w (cut_tag tag.place (length text)) [] (length text) cut
  tag_flawed Wrong k name w cut = k tag.place name w

  -- blamed where no start tag may stand
  pub whole_blamed : (slots : List ℕ) (t : Tagged) → AttributesRead text tag slots (Ok t) → TagBlamed text tag tag.place
  unfolding TagBlamed
  whole_blamed slots t w name v starts cut =
      ap (elements v) (w.same tag.place name)
      ∙ turns_bad v (start_tag tag.place name w.attributes)
      (after_tag text t.short tag.place name w.attributes t.next) tag.place (starts w.attributes)

  pub faulty_blamed : (b : Blamed) → TagFaulty text tag b.place → TagBlamed text tag b.place
  unfolding TagBlamed TagFaulty
  faulty_blamed b k name v starts cut = k name v cut
