-- Tokens outside of contents: blanks, faults, and what each element makes of what is due.
use Prim.Native.Nat.{ℕ, suc}
use mathlib.Core.Path.{◌≡◌, refl, ap, ◌∙◌}
use mathlib.Core.Bool.{true, false, ◌&&◌}
use mathlib.Core.List.{List, [], ◌∷◌, ◌++◌}
use mathlib.Core.Option.{none, some}
use Rattle.xliff.specs.Bytes.{equal}
use Rattle.xliff.specs.Unit.{Opening, Head}
use Rattle.xliff.specs.Encode.{Record, opening, closing, part_head, target_head}
use Rattle.xml.specs.Words.{'unit', 'source', 'target'}
use Rattle.xml.specs.Characters.{is_blank}
use Rattle.xml.specs.Tokens.{Attribute, Token, start_tag, end_tag, char, reference, finish, fault, cut_tag, text_fault}
use Rattle.xml.specs.Attributes.{only}
use Rattle.xml.specs.Elements.{unit_opening, part_of_name, target_order, Due, unit_due, part_due, source_due, target_due, part_end_due, nothing_due, Side, outside, in_content, blame, or_blame, opened, closed, finished, cut_short, inline_closed, turn, read, bad, behind, elements}
use Rattle.xml.proofs.ContentLaws.{behind_append, behind_nil, turns}
use Rattle.xml_passages.specs.Passages.{Alike, OuterBlames, Leads}
use Rattle.xml_passages.proofs.PassageLaws.{turns_bad}

pub alike_then : (a b c : List Token) → Alike a b → Alike b c → Alike a c
unfolding Alike
alike_then a b c p q d = p d ∙ q d

pub alike_as : (a b c : List Token) → Alike a b → b ≡ c → Alike a c
unfolding Alike
alike_as a b c p e d = p d ∙ ap (elements (outside d)) e

pub alike_blames : (a b : List Token) (p : ℕ) → Alike a b → OuterBlames b p → OuterBlames a p
unfolding Alike OuterBlames
alike_blames a b p k q d = k d ∙ q d

-- whatever is due
module _ (at : ℕ) (ts : List Token) where
  pub blank_alike : (c : ℕ) → is_blank c ≡ true → Alike (char at c ∷ ts) ts
  unfolding Alike turn
  blank_alike c e d = turns (outside d) (outside d) (char at c) [] ts (rw e refl) ∙ behind_nil (elements (outside d) ts)

  pub text_blames : (c : ℕ) → is_blank c ≡ false → OuterBlames (char at c ∷ ts) at
  unfolding OuterBlames turn
  text_blames c e d = turns_bad (outside d) (char at c) ts at (rw e refl)

  pub outer_reference : (c : ℕ) → OuterBlames (reference at c ∷ ts) at
  unfolding OuterBlames turn
  outer_reference c d = turns_bad (outside d) (reference at c) ts at refl

  pub outer_fault : OuterBlames (fault at ∷ ts) at
  unfolding OuterBlames turn
  outer_fault d = turns_bad (outside d) (fault at) ts at refl

  pub outer_text_fault : (p : ℕ) → OuterBlames (text_fault at p ∷ ts) at
  unfolding OuterBlames turn
  outer_text_fault p d = turns_bad (outside d) (text_fault at p) ts at refl

-- steps follow each other
pub leads_then : (d d' d'' : Due) (a b c : List Token) (rs qs : List Record) → Leads d a rs d' b → Leads d' b qs d'' c
    → Leads d a (rs ++ qs) d'' c
unfolding Leads
leads_then d d' d'' a b c rs qs p q = p ∙ ap (behind rs) q ∙ behind_append rs qs (elements (outside d'') c)

pub leads_bad : (d d' : Due) (a b : List Token) (rs : List Record) (p : ℕ) → Leads d a rs d' b → elements (outside d') b ≡ bad p
    → elements (outside d) a ≡ bad p
unfolding Leads behind
leads_bad d d' a b rs p l e = l ∙ ap (behind rs) e

-- what comes, where something is due: behind the unit, and before
pub finish_before : (p : ℕ) (ts : List Token) (d : Due) → finished d p ≡ blame p → elements (outside d) (finish p ∷ ts) ≡ bad p
unfolding turn
finish_before p ts d e = turns_bad (outside d) (finish p) ts p e

pub cut_before : (at p : ℕ) (ts : List Token) (d : Due) → cut_short d at p ≡ blame p
    → elements (outside d) (cut_tag at p ∷ ts) ≡ bad p
unfolding turn
cut_before at p ts d e = turns_bad (outside d) (cut_tag at p) ts p e

pub closed_bad : (at : ℕ) (n : List ℕ) (ts : List Token) (d : Due) → closed d at n ≡ blame at
    → elements (outside d) (end_tag at n ∷ ts) ≡ bad at
unfolding turn
closed_bad at n ts d e = turns_bad (outside d) (end_tag at n) ts at e

pub opened_bad : (at : ℕ) (n : List ℕ) (ats : List Attribute) (ts : List Token) (d : Due) → opened d at n ats ≡ blame at
    → elements (outside d) (start_tag at n ats ∷ ts) ≡ bad at
unfolding turn
opened_bad at n ats ts d e = turns_bad (outside d) (start_tag at n ats) ts at e

-- the unit's start tag
module _ (at : ℕ) (n : List ℕ) (ats : List Attribute) (ts : List Token) where
  pub unit_opens : (o : Opening) → equal n 'unit' ≡ true → unit_opening ats ≡ some o
      → Leads unit_due (start_tag at n ats ∷ ts) (opening o ∷ []) (part_due 0) ts
  unfolding Leads turn opened or_blame
  unit_opens o e f = turns (outside unit_due) (outside (part_due 0)) (start_tag at n ats) (opening o ∷ []) ts (rw (e, f) refl)

  pub no_unit : equal n 'unit' ≡ false → elements (outside unit_due) (start_tag at n ats ∷ ts) ≡ bad at
  unfolding opened
  no_unit e = opened_bad at n ats ts unit_due (rw e refl)

  pub bad_unit : equal n 'unit' ≡ true → unit_opening ats ≡ none → elements (outside unit_due) (start_tag at n ats ∷ ts) ≡ bad at
  unfolding opened or_blame
  bad_unit e f = opened_bad at n ats ts unit_due (rw (e, f) refl)

  -- a part's
  pub part_opens : (k : ℕ) (h : Head) → part_of_name n ats ≡ some h
      → Leads (part_due k) (start_tag at n ats ∷ ts) (part_head h ∷ []) (source_due (suc k) n) ts
  unfolding Leads turn opened or_blame
  part_opens k h e =
      turns (outside (part_due k)) (outside (source_due (suc k) n)) (start_tag at n ats) (part_head h ∷ []) ts (rw e refl)

  pub bad_part : (k : ℕ) → part_of_name n ats ≡ none → elements (outside (part_due k)) (start_tag at n ats ∷ ts) ≡ bad at
  unfolding opened or_blame
  bad_part k e = opened_bad at n ats ts (part_due k) (rw e refl)

  -- a source's and a target's
  abbrev pub source_side : ℕ → List ℕ → Side
  source_side k p = record { name = 'source'; behind = target_due k p }

  abbrev pub target_side : ℕ → List ℕ → Side
  target_side k p = record { name = 'target'; behind = part_end_due k p }

  pub source_opens : (k : ℕ) (p : List ℕ) → equal n 'source' && only [] ats ≡ true
      → elements (outside (source_due k p)) (start_tag at n ats ∷ ts) ≡ elements (in_content (source_side k p) []) ts
  unfolding turn opened
  source_opens k p e =
      turns (outside (source_due k p)) (in_content (source_side k p) []) (start_tag at n ats) [] ts (rw e refl)
      ∙ behind_nil (elements (in_content (source_side k p) []) ts)

  pub no_source : (k : ℕ) (p : List ℕ) → equal n 'source' && only [] ats ≡ false
      → elements (outside (source_due k p)) (start_tag at n ats ∷ ts) ≡ bad at
  unfolding opened
  no_source k p e = opened_bad at n ats ts (source_due k p) (rw e refl)

  pub target_opens : (k q : ℕ) (p : List ℕ) → equal n 'target' ≡ true → target_order k ats ≡ some q
      → elements (outside (target_due k p)) (start_tag at n ats ∷ ts)
      ≡ behind (target_head q ∷ []) (elements (in_content (target_side k p) []) ts)
  unfolding turn opened or_blame
  target_opens k q p e f =
      turns (outside (target_due k p)) (in_content (target_side k p) []) (start_tag at n ats) (target_head q ∷ []) ts
      (rw (e, f) refl)

  pub no_target : (k : ℕ) (p : List ℕ) → equal n 'target' ≡ false
      → elements (outside (target_due k p)) (start_tag at n ats ∷ ts) ≡ bad at
  unfolding opened
  no_target k p e = opened_bad at n ats ts (target_due k p) (rw e refl)

  pub bad_target : (k : ℕ) (p : List ℕ) → equal n 'target' ≡ true → target_order k ats ≡ none
      → elements (outside (target_due k p)) (start_tag at n ats ∷ ts) ≡ bad at
  unfolding opened or_blame
  bad_target k p e f = opened_bad at n ats ts (target_due k p) (rw (e, f) refl)

-- a side's end tag
pub side_closed : (side : Side) (at : ℕ) (n : List ℕ) (ts : List Token) → equal n side.name ≡ true
    → elements (in_content side []) (end_tag at n ∷ ts) ≡ elements (outside side.behind) ts
unfolding turn inline_closed
side_closed side at n ts e =
    turns (in_content side []) (outside side.behind) (end_tag at n) [] ts (rw e refl)
    ∙ behind_nil (elements (outside side.behind) ts)

pub side_bad : (side : Side) (at : ℕ) (n : List ℕ) (ts : List Token) → equal n side.name ≡ false
    → elements (in_content side []) (end_tag at n ∷ ts) ≡ bad at
unfolding turn inline_closed
side_bad side at n ts e = turns_bad (in_content side []) (end_tag at n) ts at (rw e refl)

-- the end tag of a part, behind its source or its target; of the unit; and the end behind it
pub part_closes : (k : ℕ) (p n : List ℕ) (at : ℕ) (ts : List Token) → equal n p ≡ true
    → Leads (target_due k p) (end_tag at n ∷ ts) [] (part_due k) ts
unfolding Leads turn closed
part_closes k p n at ts e = turns (outside (target_due k p)) (outside (part_due k)) (end_tag at n) [] ts (rw e refl)

pub targeted_part_closes : (k : ℕ) (p n : List ℕ) (at : ℕ) (ts : List Token) → equal n p ≡ true
    → Leads (part_end_due k p) (end_tag at n ∷ ts) [] (part_due k) ts
unfolding Leads turn closed
targeted_part_closes k p n at ts e = turns (outside (part_end_due k p)) (outside (part_due k)) (end_tag at n) [] ts (rw e refl)

pub unit_closes : (k : ℕ) (n : List ℕ) (at : ℕ) (ts : List Token) → equal n 'unit' ≡ true
    → Leads (part_due k) (end_tag at n ∷ ts) (closing ∷ []) nothing_due ts
unfolding Leads turn closed
unit_closes k n at ts e = turns (outside (part_due k)) (outside nothing_due) (end_tag at n) (closing ∷ []) ts (rw e refl)

pub text_over : (p : ℕ) (ts : List Token) → elements (outside nothing_due) (finish p ∷ ts) ≡ read []
unfolding elements turn finished
text_over p ts = refl
