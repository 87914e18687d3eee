-- Laws of passages: they follow each other, and each token of a content makes one or is at fault.
use Prim.Native.Nat.{ℕ, ◌+◌, ◌-◌}
use mathlib.Core.Path.{◌≡◌, refl, sym, ap, ◌∙◌}
use mathlib.Core.Bool.{true, false}
use mathlib.Core.List.{List, [], ◌∷◌, ◌++◌}
use mathlib.Core.Option.{Option, none, some}
use native.Mathlib.Omega.{arith}
use lib.ListN.{length}
use borrow.Author.Tests.{lt-ltb, le-ltb}
use Rattle.xliff.specs.Bytes.{equal}
use Rattle.xliff.specs.Item.{Item}
use Rattle.xliff.specs.Encode.{Record, text_run, inline}
use Rattle.xml.specs.Tokens.{Attribute, Token, start_tag, end_tag, char, reference, finish, fault, cut_tag, text_fault}
use Rattle.xml.specs.Elements.{most_depth, Inline, single, nested, inline_of_name, Side, Open, Where, in_content, in_empty, blame, or_blame, inline_opened, inline_closed, turn, bad, behind, elements}
use Rattle.xml.proofs.ContentLaws.{behind_append, behind_nil, turns}
use Rattle.xml_passages.specs.Passages.{Passage, Blames, Empties, EmptyBlames}

-- a token at fault
pub turns_bad : (w : Where) (t : Token) (ts : List Token) (p : ℕ) → turn w t ≡ blame p → elements w (t ∷ ts) ≡ bad p
unfolding elements
turns_bad w t ts p e = rw (e, elements)

-- passages follow each other
module _ (depth : ℕ) where
  pub no_passage : (a : List Token) → Passage depth a [] a
  unfolding Passage
  no_passage a side opens e = sym (behind_nil (elements (in_content side opens) a))

  pub passage_then : (a b c : List Token) (rs qs : List Record) → Passage depth a rs b → Passage depth b qs c
      → Passage depth a (rs ++ qs) c
  unfolding Passage
  passage_then a b c rs qs p q side opens e =
      p side opens e ∙ ap (behind rs) (q side opens e) ∙ behind_append rs qs (elements (in_content side opens) c)

  pub passage_blames : (a b : List Token) (rs : List Record) (p : ℕ) → Passage depth a rs b → Blames depth b p → Blames depth a p
  unfolding Passage Blames behind
  passage_blames a b rs p q k side opens e = q side opens e ∙ ap (behind rs) (k side opens e)

  pub passage_as : (a a' b : List Token) (rs : List Record) → a ≡ a' → Passage depth a' rs b → Passage depth a rs b
  unfolding Passage
  passage_as a a' b rs g p side opens e = ap (elements (in_content side opens)) g ∙ p side opens e

  pub blames_as : (a a' : List Token) (p : ℕ) → a ≡ a' → Blames depth a' p → Blames depth a p
  unfolding Blames
  blames_as a a' p g k side opens e = ap (elements (in_content side opens)) g ∙ k side opens e

  -- the tokens of a content but tags
  module _ (at : ℕ) (ts : List Token) where
    pub char_passage : (c : ℕ) → Passage depth (char at c ∷ ts) (text_run (c ∷ []) ∷ []) ts
    unfolding Passage turn
    char_passage c side opens e =
        turns (in_content side opens) (in_content side opens) (char at c) (text_run (c ∷ []) ∷ []) ts refl

    pub reference_passage : (c : ℕ) → Passage depth (reference at c ∷ ts) (text_run (c ∷ []) ∷ []) ts
    unfolding Passage turn
    reference_passage c side opens e =
        turns (in_content side opens) (in_content side opens) (reference at c) (text_run (c ∷ []) ∷ []) ts refl

    pub fault_blames : Blames depth (fault at ∷ ts) at
    unfolding Blames turn
    fault_blames side opens e = turns_bad (in_content side opens) (fault at) ts at refl

    pub finish_blames : Blames depth (finish at ∷ ts) at
    unfolding Blames turn
    finish_blames side opens e = turns_bad (in_content side opens) (finish at) ts at refl

    pub cut_blames : (p : ℕ) → Blames depth (cut_tag at p ∷ ts) p
    unfolding Blames turn
    cut_blames p side opens e = turns_bad (in_content side opens) (cut_tag at p) ts p refl

    pub text_fault_blames : (p : ℕ) → Blames depth (text_fault at p ∷ ts) p
    unfolding Blames turn
    text_fault_blames p side opens e = turns_bad (in_content side opens) (text_fault at p) ts p refl

-- a start tag in a content
module _ (depth place : ℕ) (name : List ℕ) (ats : List Attribute) (ts : List Token) where
  start_turn : (side : Side) (opens : List Open) (o : Option Inline) → inline_of_name name ats ≡ o
      → turn (in_content side opens) (start_tag place name ats) ≡ or_blame o place (inline_opened side opens place name)
  unfolding turn
  start_turn side opens o e = ap (λ (x : Option Inline). or_blame x place (inline_opened side opens place name)) e

  pub bad_element : inline_of_name name ats ≡ none → Blames depth (start_tag place name ats ∷ ts) place
  unfolding Blames or_blame
  bad_element e side opens h =
      turns_bad (in_content side opens) (start_tag place name ats) ts place (start_turn side opens none e)

  -- an empty element, up to its end
  pub single_passage : (x : Item) (b : List Token) → inline_of_name name ats ≡ some (single x) → Empties name ts b
      → Passage depth (start_tag place name ats ∷ ts) (inline x ∷ []) b
  unfolding Passage Empties or_blame inline_opened
  single_passage x b e k side opens h =
      turns (in_content side opens) (in_empty side opens name) (start_tag place name ats) (inline x ∷ []) ts
      (start_turn side opens (some (single x)) e)
      ∙ ap (behind (inline x ∷ [])) (k side opens)

  pub single_blames : (x : Item) (p : ℕ) → inline_of_name name ats ≡ some (single x) → EmptyBlames name ts p
      → Blames depth (start_tag place name ats ∷ ts) p
  unfolding Blames EmptyBlames or_blame inline_opened behind
  single_blames x p e k side opens h =
      turns (in_content side opens) (in_empty side opens name) (start_tag place name ats) (inline x ∷ []) ts
      (start_turn side opens (some (single x)) e)
      ∙ ap (behind (inline x ∷ [])) (k side opens)

-- an element with content
module _ (depth place : ℕ) (name : List ℕ) (ats : List Attribute) (ts : List Token) (x y : Item)
    (is : inline_of_name name ats ≡ some (nested x y)) where
  -- within it
  abbrev inner : List Open → List Open
  inner opens = record { name = name; end_item = y } ∷ opens

  pub too_deep : depth ≡ 0 → Blames depth (start_tag place name ats ∷ ts) place
  unfolding Blames or_blame inline_opened
  too_deep d side opens h =
      turns_bad (in_content side opens) (start_tag place name ats) ts place
      (start_turn depth place name ats ts side opens (some (nested x y)) is
      ∙ rw (le-ltb (length opens) most_depth (omega (arith, h, d))) refl)

  module _ (deep : (depth ≡ 0 → ⊥)) where
    opened_turn : (side : Side) (opens : List Open) → length opens + depth ≡ most_depth
        → elements (in_content side opens) (start_tag place name ats ∷ ts)
        ≡ behind (inline x ∷ []) (elements (in_content side (inner opens)) ts)
    unfolding or_blame inline_opened
    opened_turn side opens h =
        turns (in_content side opens) (in_content side (inner opens)) (start_tag place name ats) (inline x ∷ []) ts
        (start_turn depth place name ats ts side opens (some (nested x y)) is
        ∙ rw (lt-ltb (length opens) most_depth (omega (arith, h, deep))) refl)

    -- its content is at fault; it is closed by an end tag of its name, or by another
    pub nested_blames : (p : ℕ) → Blames (depth - 1) ts p → Blames depth (start_tag place name ats ∷ ts) p
    unfolding Blames behind
    nested_blames p k side opens h =
        opened_turn side opens h
        ∙ ap (behind (inline x ∷ [])) (k side (inner opens) (omega (arith, h, deep)))

    module _ (rs : List Record) (end : ℕ) (end_name : List ℕ) (b : List Token)
        (within : Passage (depth - 1) ts rs (end_tag end end_name ∷ b)) where
      to_end : (side : Side) (opens : List Open) → length opens + depth ≡ most_depth
          → elements (in_content side opens) (start_tag place name ats ∷ ts)
          ≡ behind (inline x ∷ rs) (elements (in_content side (inner opens)) (end_tag end end_name ∷ b))
      unfolding Passage
      to_end side opens h =
          opened_turn side opens h
          ∙ ap (behind (inline x ∷ [])) (within side (inner opens) (omega (arith, h, deep)))
          ∙ behind_append (inline x ∷ []) rs (elements (in_content side (inner opens)) (end_tag end end_name ∷ b))

      pub nested_passage : equal end_name name ≡ true
          → Passage depth (start_tag place name ats ∷ ts) ((inline x ∷ rs) ++ (inline y ∷ [])) b
      unfolding Passage turn inline_closed
      nested_passage e side opens h =
          to_end side opens h
          ∙ ap (behind (inline x ∷ rs))
          (turns (in_content side (inner opens)) (in_content side opens) (end_tag end end_name) (inline y ∷ []) b (rw e refl))
          ∙ behind_append (inline x ∷ rs) (inline y ∷ []) (elements (in_content side opens) b)

      pub other_end_blames : equal end_name name ≡ false → Blames depth (start_tag place name ats ∷ ts) end
      unfolding Blames turn inline_closed behind
      other_end_blames e side opens h =
          to_end side opens h
          ∙ ap (behind (inline x ∷ rs)) (turns_bad (in_content side (inner opens)) (end_tag end end_name) b end (rw e refl))
