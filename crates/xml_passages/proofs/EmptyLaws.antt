-- Tokens in an empty element: its end, or a fault.
use Prim.Native.Nat.{ℕ}
use mathlib.Core.Path.{◌≡◌, refl, ap, ◌∙◌}
use mathlib.Core.Bool.{true, false}
use mathlib.Core.List.{List, [], ◌∷◌}
use Rattle.xliff.specs.Bytes.{equal}
use Rattle.xml.specs.Tokens.{Attribute, Token, start_tag, end_tag, char, reference, finish, fault, cut_tag, text_fault}
use Rattle.xml.specs.Elements.{in_content, in_empty, turn, elements}
use Rattle.xml.proofs.ContentLaws.{behind_nil, turns}
use Rattle.xml_passages.specs.Passages.{Empties, EmptyBlames}
use Rattle.xml_passages.proofs.PassageLaws.{turns_bad}

module _ (name : List ℕ) where
  pub empties_as : (a a' b : List Token) → a ≡ a' → Empties name a' b → Empties name a b
  unfolding Empties
  empties_as a a' b g k side opens = ap (elements (in_empty side opens name)) g ∙ k side opens

  pub empty_blames_as : (a a' : List Token) (p : ℕ) → a ≡ a' → EmptyBlames name a' p → EmptyBlames name a p
  unfolding EmptyBlames
  empty_blames_as a a' p g k side opens = ap (elements (in_empty side opens name)) g ∙ k side opens

  module _ (at : ℕ) (ts : List Token) where
    pub end_empties : (n : List ℕ) → equal n name ≡ true → Empties name (end_tag at n ∷ ts) ts
    unfolding Empties turn
    end_empties n e side opens =
        turns (in_empty side opens name) (in_content side opens) (end_tag at n) [] ts (rw e refl)
        ∙ behind_nil (elements (in_content side opens) ts)

    pub other_end_empty : (n : List ℕ) → equal n name ≡ false → EmptyBlames name (end_tag at n ∷ ts) at
    unfolding EmptyBlames turn
    other_end_empty n e side opens = turns_bad (in_empty side opens name) (end_tag at n) ts at (rw e refl)

    pub start_empty : (n : List ℕ) (ats : List Attribute) → EmptyBlames name (start_tag at n ats ∷ ts) at
    unfolding EmptyBlames turn
    start_empty n ats side opens = turns_bad (in_empty side opens name) (start_tag at n ats) ts at refl

    pub char_empty : (c : ℕ) → EmptyBlames name (char at c ∷ ts) at
    unfolding EmptyBlames turn
    char_empty c side opens = turns_bad (in_empty side opens name) (char at c) ts at refl

    pub reference_empty : (c : ℕ) → EmptyBlames name (reference at c ∷ ts) at
    unfolding EmptyBlames turn
    reference_empty c side opens = turns_bad (in_empty side opens name) (reference at c) ts at refl

    pub finish_empty : EmptyBlames name (finish at ∷ ts) at
    unfolding EmptyBlames turn
    finish_empty side opens = turns_bad (in_empty side opens name) (finish at) ts at refl

    pub fault_empty : EmptyBlames name (fault at ∷ ts) at
    unfolding EmptyBlames turn
    fault_empty side opens = turns_bad (in_empty side opens name) (fault at) ts at refl

    pub cut_empty : (p : ℕ) → EmptyBlames name (cut_tag at p ∷ ts) p
    unfolding EmptyBlames turn
    cut_empty p side opens = turns_bad (in_empty side opens name) (cut_tag at p) ts p refl

    pub text_fault_empty : (p : ℕ) → EmptyBlames name (text_fault at p ∷ ts) at
    unfolding EmptyBlames turn
    text_fault_empty p side opens = turns_bad (in_empty side opens name) (text_fault at p) ts at refl
