-- The attributes of a start tag, one by one, up to the tag's end.
use Prim.Native.Nat.{ℕ, ◌+◌, ◌≤◌}
use mathlib.Core.Path.{◌≡◌, refl, sym, ap, ◌∙◌}
use mathlib.Core.Bool.{Bool, true, false}
use mathlib.Core.List.{List, [], ◌∷◌, ◌++◌}
use native.Mathlib.Omega.{arith}
use lib.ListN.{length, length-append}
use Rattle.xml.specs.Tokens.{Attribute, in_tag, with_attribute, doubled}
use Rattle.xml.specs.Places.{tokens_at}
use Rattle.xml.specs.Attributes.{only}
use Rattle.xml.specs.Elements.{elements}
use Rattle.xml_attribute.specs.declared.AttributeAt.{AttributeAt}
use Rattle.std.specs.Prelude.{Err}
use Rattle.xml_front.specs.declared.Flaw.{Flaw}
use Rattle.xml_front.specs.declared.Flaw.TheVariants.{Cut, Wrong}
use Rattle.xml_attribute.specs.Attribute.{attribute_of, tag_with, OneRead, EndRead, Reading}
use Rattle.xml_slots.specs.Slots.{slots_of, sound}
use Rattle.xml_attributes.specs.Tags.{tag_so_far, WholeTag, TagRead, Known, Placed}
use Rattle.xml_attributes.proofs.SpoiltLaws.{fault_blamed, spoilt, sound_whole}

-- the attributes from one place of a text to another, and their slots, as many as were lent
pub record TagSoFar (s : List ℕ) (start : ℕ) (lent slots : List ℕ) (at count : ℕ) (fine : Bool) : Type 0 where
  pub attributes : List Attribute
  pub low : start ≤ at
  pub inside : at ≤ length s
  pub few : count ≤ at
  pub size : length slots ≡ length lent
  pub counted : count ≡ length attributes
  pub known : Known slots fine attributes
  pub same : (place : ℕ) (name : List ℕ) → tokens_at s (in_tag (tag_so_far place name []) false) start
      ≡ tokens_at s (in_tag (tag_so_far place name attributes) false) at

pub sixteen : (slots : List ℕ) → slots ≡ slots_of [] → length slots ≡ 16
unfolding slots_of
sixteen slots e = ap length e

pub no_attribute_yet : (s : List ℕ) (start : ℕ) (slots : List ℕ) → start ≤ length s → slots ≡ slots_of []
    → TagSoFar s start slots slots start 0 true
unfolding sound doubled only
no_attribute_yet s start slots h e =
    record {
      attributes = [];
      low = omega arith;
      inside = h;
      few = omega arith;
      size = refl;
      counted = refl;
      known = record { are_sound = refl; told = λ t. e };
      same = λ place name. refl;
    }

module _ (s : List ℕ) (start : ℕ) (lent slots : List ℕ) (at count : ℕ) (fine : Bool)
    (so_far : TagSoFar s start lent slots at count fine) where
  abbrev ats : List Attribute
  ats = so_far.attributes

  -- one attribute more
  pub one_more : (a : AttributeAt) → OneRead s (λ t. in_tag t false) at a → (after : List ℕ) (still : Bool)
      → Placed slots fine (attribute_of s a) after still → TagSoFar s start lent after a.next (count + 1) still
  unfolding tag_with with_attribute
  one_more a r after still p =
      let low = so_far.low in
      let few = so_far.few in
      let ahead = r.ahead in
      let counted = so_far.counted in
      record {
        attributes = ats ++ (attribute_of s a ∷ []);
        low = omega arith;
        inside = r.inside;
        few = omega arith;
        size = p.size ∙ so_far.size;
        counted = omega (arith, length-append ats (attribute_of s a ∷ []));
        known = p.known ats so_far.known;
        same = λ place name. so_far.same place name ∙ r.same (tag_so_far place name ats);
      }

  -- the tag's end
  pub whole : (next : ℕ) (short : Bool) → EndRead s (λ t. in_tag t false) at next short → fine ≡ true
      → WholeTag s start slots next short count
  whole next short r e =
      let low = so_far.low in
      let ahead = r.ahead in
      let are_sound = sym so_far.known.are_sound ∙ e in
      record {
        attributes = ats;
        ahead = omega arith;
        inside = r.inside;
        slotted = record { told = so_far.known.told e; counted = so_far.counted; are_sound = are_sound };
        same = λ place name.
            so_far.same place name ∙ r.same (tag_so_far place name ats) ∙ sound_whole s next short place name ats are_sound;
      }

  pub spoilt_whole : (next : ℕ) (short : Bool) → EndRead s (λ t. in_tag t false) at next short → fine ≡ false
      → TagRead s start slots (Err Wrong)
  spoilt_whole next short r e place name w =
      ap (elements w) (so_far.same place name ∙ r.same (tag_so_far place name ats))
      ∙ spoilt s next short place name ats w (sym so_far.known.are_sound ∙ e)

  -- the text's end; a fault
  pub tag_at_fault : (e : Flaw) → Reading s (λ t. in_tag t false) at (Err e) → TagRead s start slots (Err e)
  tag_at_fault Cut r = λ place name. so_far.same place name ∙ r (tag_so_far place name ats)
  tag_at_fault Wrong r = λ place name w.
      ap (elements w) (so_far.same place name ∙ r (tag_so_far place name ats)) ∙ fault_blamed w place
