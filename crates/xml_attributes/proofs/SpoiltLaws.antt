-- A tag at fault: wherever it stands, its place is blamed.
use Prim.Native.Nat.{ℕ}
use mathlib.Core.Path.{◌≡◌, refl, sym, ap, ◌∙◌}
use mathlib.Core.Bool.{Bool, true, false, not, ◌&&◌, ◌||◌, cond}
use mathlib.Core.List.{List, [], ◌∷◌, ◌++◌}
use mathlib.Core.Option.{Option, none, some}
use native.Mathlib.Omega.{arith}
use lib.Dec.{eqb}
use borrow.Author.Tests.{not-true}
use Rattle.xliff.specs.Bytes.{'Y', equal, any}
use Rattle.xliff.proofs.lists.Tests.{and_left, and_right, and_false, equal_true}
use Rattle.xliff.specs.Item.{end, form_S, isolated, pair}
use Rattle.xml.specs.Words.{'unit', 'segment', 'ignorable', 'source', 'target', 'cp', 'ph', 'pc', 'sc', 'ec', 'mrk', 'sm', 'em', 'id', 'canResegment', 'state', 'order', 'hex', 'copyOf', 'dataRef', 'dataRefStart', 'dataRefEnd', 'startRef', 'canCopy', 'canDelete', 'canOverlap', 'canReorder', 'translate', Words·all}
use Rattle.xml.specs.Tokens.{Attribute, Token, start_tag, fault, Tag, outside_tags, doubled}
use Rattle.xml.specs.Places.{tokens_at}
use Rattle.xml.specs.Attributes.{with, named, only, yes_no, choice, code_fields}
use Rattle.xml.specs.Elements.{Due, unit_due, part_due, source_due, target_due, part_end_due, nothing_due, Where, outside, in_content, in_empty, Turn, blame, Inline, single, code_names, or_blame, unit_opening, segment_head, ignorable_head, part_of_name, target_order, read_cp, read_ph, read_pc, isolated_letter, read_sc, read_ec, read_mrk, read_sm, read_em, inline_of_name, opened, turn, bad, elements}
use Rattle.xml_attribute.specs.Attribute.{tag_tokens, whole_tokens}
use Rattle.xml_slots.specs.Slots.{slot_names, sound}
use Rattle.xml_attributes.specs.Tags.{tag_so_far}

-- a token that is blamed
blamed : (w : Where) (t : Token) (ts : List Token) (p : ℕ) → turn w t ≡ blame p → elements w (t ∷ ts) ≡ bad p
unfolding elements
blamed w t ts p e = rw (e, elements)

fault_turn : (w : Where) (p : ℕ) → turn w (fault p) ≡ blame p
unfolding turn
fault_turn (outside d) p = refl
fault_turn (in_content side opens) p = refl
fault_turn (in_empty side opens m) p = refl

pub fault_blamed : (w : Where) (p : ℕ) → elements w (fault p ∷ []) ≡ bad p
fault_blamed w p = blamed w (fault p) [] p (fault_turn w p)

-- names among others
unfoldable among_names : List (List ℕ) → List (List ℕ) → Bool
among_names ns [] = true
among_names ns (m ∷ ms) = named ns m && among_names ns ms

named_there : (ns ms : List (List ℕ)) (n : List ℕ) → among_names ns ms ≡ true → named ms n ≡ true → named ns n ≡ true
unfolding among_names named any
named_there ns [] n a h = absurd (let z : ◌≡◌ {A = ℕ} 0 1 = cc in omega arith)
named_there ns (m ∷ ms) n a h = by (equal n m) refl h (λ k. named_there ns ms n (and_right (any (equal m) ns) _ a) k)
  where
    by : (b : Bool) → equal n m ≡ b → b || any (equal n) ms ≡ true → (any (equal n) ms ≡ true → any (equal n) ns ≡ true)
        → any (equal n) ns ≡ true
    by true e h ih = ap (λ (l : List ℕ). any (equal l) ns) (equal_true n m e) ∙ and_left _ _ a
    by false e h ih = ih h

only_wider : (ns ms : List (List ℕ)) (ats : List Attribute) → among_names ns ms ≡ true → only ms ats ≡ true → only ns ats ≡ true
unfolding only
only_wider ns ms [] a h = refl
only_wider ns ms (b ∷ ats) a h =
    rw (named_there ns ms b.name a (and_left _ _ h)) (only_wider ns ms ats a (and_right (named ms b.name) _ h))

-- where both are none, or blamed, the choice is
module _ {A : Type 0} where
  either_none : (b : Bool) (o p : Option A) → o ≡ none → p ≡ none → cond b o p ≡ none
  either_none true o p h k = h
  either_none false o p h k = k

either_blamed : (b : Bool) (t : Turn) (p : ℕ) → t ≡ blame p → cond b t (blame p) ≡ blame p
either_blamed true t p h = h
either_blamed false t p h = refl

-- a name outside of the subset: no reader takes the attributes
module _ (ats : List Attribute) (strange : only slot_names ats ≡ false) where
  not_only : (ms : List (List ℕ)) → among_names slot_names ms ≡ true → only ms ats ≡ false
  not_only ms a = by (only ms ats) refl
    where
      by : (x : Bool) → only ms ats ≡ x → x ≡ false
      by true e = sym (only_wider slot_names ms ats a e) ∙ strange
      by false e = refl

  no_unit : unit_opening ats ≡ none
  unfolding unit_opening among_names named any equal Words·all
  no_unit = rw (not_only ('id' ∷ 'canResegment' ∷ []) refl)

  no_part : (n : List ℕ) → part_of_name n ats ≡ none
  unfolding part_of_name segment_head ignorable_head among_names named any equal Words·all
  no_part n =
      either_none (equal n 'segment') (segment_head ats) _ (rw (not_only ('id' ∷ 'canResegment' ∷ 'state' ∷ []) refl))
      (either_none (equal n 'ignorable') (ignorable_head ats) none (rw (not_only ('id' ∷ []) refl)) refl)

  no_order : (k : ℕ) → target_order k ats ≡ none
  unfolding target_order among_names named any equal Words·all
  no_order k = rw (not_only ('order' ∷ []) refl)

  opened_blamed : (d : Due) (p : ℕ) (n : List ℕ) → opened d p n ats ≡ blame p
  unfolding opened or_blame among_names
  opened_blamed unit_due p n = either_blamed (equal n 'unit') _ p (rw no_unit)
  opened_blamed (part_due k) p n = rw (no_part n)
  opened_blamed (source_due k m) p n = rw (not_only [] refl, and_false (equal n 'source'))
  opened_blamed (target_due k m) p n = either_blamed (equal n 'target') _ p (rw (no_order k))
  opened_blamed (part_end_due k m) p n = refl
  opened_blamed nothing_due p n = refl

  no_cp : read_cp ats ≡ none
  unfolding read_cp among_names named any equal Words·all
  no_cp = rw (not_only ('hex' ∷ []) refl)

  no_ph : read_ph ats ≡ none
  unfolding read_ph among_names named any equal Words·all
  no_ph = rw (not_only ('id' ∷ 'copyOf' ∷ 'dataRef' ∷ 'canCopy' ∷ 'canDelete' ∷ 'canReorder' ∷ []) refl)

  no_pc : read_pc ats ≡ none
  unfolding read_pc among_names named any equal Words·all
  no_pc =
      rw
      (not_only
      ('id' ∷ 'copyOf' ∷ 'dataRefStart' ∷ 'dataRefEnd' ∷ 'canCopy' ∷ 'canDelete' ∷ 'canOverlap' ∷ 'canReorder' ∷ []) refl)

  no_sc : read_sc ats ≡ none
  unfolding read_sc among_names named any equal Words·all
  no_sc = rw (not_only ('id' ∷ code_names) refl)

  no_ec : read_ec ats ≡ none
  unfolding read_ec with among_names named any equal Words·all
  no_ec = by (isolated_letter ats)
    where
      reads : Bool → Option Inline
      reads b =
          cond (only (cond b 'id' 'startRef' ∷ code_names) ats)
          (with (code_fields (cond b 'id' 'startRef') 'dataRef' (choice 'canOverlap' yes_no 'Y' ats) ats)
          (λ f. some (single (cond b (isolated end f) (pair end form_S f))))) none

      none_read : (b : Bool) → reads b ≡ none
      none_read true = rw (not_only ('id' ∷ code_names) refl)
      none_read false = rw (not_only ('startRef' ∷ code_names) refl)

      by : (o : Option ℕ) → with o (λ i. reads (eqb i 'Y')) ≡ none
      by none = refl
      by (some i) = none_read (eqb i 'Y')

  -- mrk and sm
  no_annotation : only ('id' ∷ 'translate' ∷ []) ats ≡ false
  unfolding among_names named any equal Words·all
  no_annotation = not_only ('id' ∷ 'translate' ∷ []) refl

  no_em : read_em ats ≡ none
  unfolding read_em among_names named any equal Words·all
  no_em = rw (not_only ('startRef' ∷ []) refl)

  no_inline : (n : List ℕ) → inline_of_name n ats ≡ none
  unfolding inline_of_name read_mrk read_sm
  no_inline n =
      either_none (equal n 'cp') (read_cp ats) _ no_cp
      (either_none (equal n 'ph') (read_ph ats) _ no_ph
      (either_none (equal n 'pc') (read_pc ats) _ no_pc
      (either_none (equal n 'sc') (read_sc ats) _ no_sc
      (either_none (equal n 'ec') (read_ec ats) _ no_ec
      (either_none (equal n 'mrk') (read_mrk ats) _ (rw no_annotation)
      (either_none (equal n 'sm') (read_sm ats) _ (rw no_annotation)
      (either_none (equal n 'em') (read_em ats) none no_em refl)))))))

  pub stranger_blamed : (w : Where) (p : ℕ) (n : List ℕ) → turn w (start_tag p n ats) ≡ blame p
  unfolding turn or_blame
  stranger_blamed (outside d) p n = opened_blamed d p n
  stranger_blamed (in_content side opens) p n = rw (no_inline n)
  stranger_blamed (in_empty side opens m) p n = refl

-- THE LAW OF A SPOILT TAG: attributes that are not sound have the tag blamed, wherever it stands
pub spoilt : (s : List ℕ) (next : ℕ) (short : Bool) (place : ℕ) (name : List ℕ) (ats : List Attribute) (w : Where)
    → sound ats ≡ false → elements w (whole_tokens s next short (tag_so_far place name ats)) ≡ bad place
unfolding whole_tokens sound
spoilt s next short place name ats w e = by (doubled ats) (only slot_names ats) refl e
  where
    t : Tag
    t = tag_so_far place name ats

    by : (d o : Bool) → only slot_names ats ≡ o → not d && o ≡ false
        → elements w (cond d (fault place ∷ []) (tag_tokens short t ++ tokens_at s outside_tags next)) ≡ bad place
    by true o q e = fault_blamed w place
    by false true q e = absurd (let z : ◌≡◌ {A = ℕ} 0 1 = cc in omega arith)
    by false false q e = blamed w (start_tag place name ats) _ place (stranger_blamed ats q w place name)

-- a sound tag is whole
pub sound_whole : (s : List ℕ) (next : ℕ) (short : Bool) (place : ℕ) (name : List ℕ) (ats : List Attribute)
    → sound ats ≡ true
    → whole_tokens s next short (tag_so_far place name ats)
    ≡ tag_tokens short (tag_so_far place name ats) ++ tokens_at s outside_tags next
unfolding whole_tokens sound
sound_whole s next short place name ats e = rw (not-true (doubled ats) (and_left (not (doubled ats)) _ e))
