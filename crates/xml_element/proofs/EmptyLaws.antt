-- An empty element behind its start tag: comments, then its end tag or a fault.
use Prim.Native.Nat.{ℕ, ◌≤◌}
use mathlib.Core.Path.{◌≡◌, refl, sym, ap, subst, ◌∙◌}
use mathlib.Core.Bool.{Bool, true, false}
use mathlib.Core.Logic.{◌⊎◌, inl, inr}
use mathlib.Core.List.{List, [], ◌∷◌}
use native.Mathlib.Omega.{arith}
use lib.ListN.{length}
use Rattle.std.specs.Prelude.{Result, Ok, Err}
use Rattle.xliff.specs.Bytes.{equal}
use Rattle.xliff.proofs.lists.Tests.{equal_refl}
use Rattle.xml.specs.Tokens.{Token, end_tag, char, reference, finish, fault, cut_tag, text_fault}
use Rattle.xml.specs.Elements.{in_empty, turn, elements}
use Rattle.xml_names.specs.declared.Span.{Span}
use Rattle.xml_attribute.specs.Attribute.{short_form}
use Rattle.xml_piece.specs.declared.Piece.{Piece}
use Rattle.xml_piece.specs.declared.Piece.TheVariants.{Start, Close, Comment, Character, Reference, CutTag, Fault, TextFault, End}
use Rattle.xml_piece.specs.Pieces.{rest_at, PieceRead}
use Rattle.xml_passages.specs.Passages.{Empties, EmptyBlames}
use Rattle.xml_passages.proofs.EmptyLaws.{empties_as, empty_blames_as, end_empties, other_end_empty, char_empty, reference_empty, finish_empty, fault_empty, cut_empty, text_fault_empty}
use Rattle.xml_element.specs.declared.Blamed.{Blamed}
use Rattle.xml_element.specs.Opens.{blamed_at, spelled, after_tag, TagBlamed, EmptyRead, SingleRead}

-- comments stand from `start` to `at`
pub record Passed (text : List ℕ) (start at : ℕ) : Type 0 where
  pub low : start ≤ at
  pub high : at ≤ length text
  pub same : rest_at text start ≡ rest_at text at

module _ (text name : List ℕ) (start at : ℕ) (s : Passed text start at) (m : Piece) (r : PieceRead text at m) where
  known : (n : Piece) → m ≡ n → PieceRead text at n
  known n e = subst (PieceRead text at) e r

  blamed : (ts : List Token) (p : ℕ) → rest_at text at ≡ ts → EmptyBlames name ts p
      → EmptyRead text name start (rest_at text start) (Err (blamed_at p))
  blamed ts p e k = empty_blames_as name (rest_at text start) ts p (s.same ∙ e) k

  pub inner_tag : (inner : Span) → m ≡ Start inner → PieceRead text at (Start inner)
  inner_tag inner e = known (Start inner) e

  pub tag_blamed : (inner : Span) (b : Blamed) → m ≡ Start inner
      → TagBlamed text (record { place = at; name = inner }) b.place
      → EmptyRead text name start (rest_at text start) (Err b)
  unfolding EmptyBlames TagBlamed turn
  tag_blamed inner b e k side opens =
      ap (elements (in_empty side opens name)) (s.same ∙ (known (Start inner) e).2)
      ∙ k (spelled text inner) (in_empty side opens name) (λ ats. refl) refl

  pub comment_on : (next : ℕ) → m ≡ Comment next → Passed text start next
  comment_on next e =
      let k = known (Comment next) e in
      record { low = omega (arith, s.low, k.0.ahead); high = k.0.inside; same = s.same ∙ k.1 }

  module _ (other : Span) (next : ℕ) (e : m ≡ Close other next) where
    pub end_closes : equal (spelled text other) name ≡ true → EmptyRead text name start (rest_at text start) (Ok next)
    end_closes same =
        let k = (known (Close other next) e).1 in (
          omega (arith, s.low, k.goes.ahead),
          k.goes.inside,
          empties_as name (rest_at text start) (end_tag at (spelled text other) ∷ rest_at text next) (rest_at text next)
              (s.same ∙ k.same) (end_empties name at (rest_at text next) (spelled text other) same),
        )

    pub other_closes : equal (spelled text other) name ≡ false
        → EmptyRead text name start (rest_at text start) (Err (blamed_at at))
    other_closes differs =
        blamed (end_tag at (spelled text other) ∷ rest_at text next) at (known (Close other next) e).1.same
        (other_end_empty name at (rest_at text next) (spelled text other) differs)

  character_blamed : (c next : ℕ) → m ≡ Character c next → EmptyRead text name start (rest_at text start) (Err (blamed_at at))
  character_blamed c next e =
      blamed (char at c ∷ rest_at text next) at (known (Character c next) e).1.same (char_empty name at (rest_at text next) c)

  reference_blamed : (c next : ℕ) → m ≡ Reference c next → EmptyRead text name start (rest_at text start) (Err (blamed_at at))
  reference_blamed c next e =
      blamed (reference at c ∷ rest_at text next) at (known (Reference c next) e).1.same
      (reference_empty name at (rest_at text next) c)

  pub cut_at_end : m ≡ CutTag → EmptyRead text name start (rest_at text start) (Err (blamed_at (length text)))
  cut_at_end e = blamed (cut_tag at (length text) ∷ []) (length text) (known CutTag e) (cut_empty name at [] (length text))

  pub at_fault : (p : ℕ) → m ≡ Fault p → EmptyRead text name start (rest_at text start) (Err (blamed_at p))
  at_fault p e = blamed (fault p ∷ []) p (known (Fault p) e) (fault_empty name p [])

  text_at_fault : (p : ℕ) → m ≡ TextFault p → EmptyRead text name start (rest_at text start) (Err (blamed_at at))
  text_at_fault p e = blamed (text_fault at p ∷ []) at (known (TextFault p) e) (text_fault_empty name at [] p)

  text_ends : m ≡ End → EmptyRead text name start (rest_at text start) (Err (blamed_at at))
  text_ends e = blamed (finish at ∷ []) at (known End e) (finish_empty name at [])

  -- text, of any of these kinds, or the text's end
  pub text_blamed
      : ((c : ℕ) × (next : ℕ) × (m ≡ Character c next))
      ⊎ (((c : ℕ) × (next : ℕ) × (m ≡ Reference c next)) ⊎ (((p : ℕ) × (m ≡ TextFault p)) ⊎ (m ≡ End)))
      → EmptyRead text name start (rest_at text start) (Err (blamed_at at))
  text_blamed (inl (c, next, e)) = character_blamed c next e
  text_blamed (inr (inl (c, next, e))) = reference_blamed c next e
  text_blamed (inr (inr (inl (p, e)))) = text_at_fault p e
  text_blamed (inr (inr (inr e))) = text_ends e

-- the end of an empty element, in the short form and in the long
pub short_end : (text name : List ℕ) (next : ℕ) (short : Bool) → next ≤ length text → short ≡ true
    → SingleRead text name next short (Ok next)
unfolding SingleRead short_form
short_end text name next short h e place ats = (
  omega arith,
  h,
  subst (λ (s : Bool). Empties name (after_tag text s place name ats next) (rest_at text next)) (sym e)
      (end_empties name place (rest_at text next) name (equal_refl name)),
)

pub long_end : (text name : List ℕ) (next : ℕ) (short : Bool) (r : Result ℕ Blamed) → short ≡ false
    → EmptyRead text name next (rest_at text next) r → SingleRead text name next short r
unfolding SingleRead short_form
long_end text name next short r e k place ats =
    subst (λ (s : Bool). EmptyRead text name next (after_tag text s place name ats next) r) (sym e) k
