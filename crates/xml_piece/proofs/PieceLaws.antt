-- What stands at a place outside of tags and comments: a law for each case of `outside_step`.
use Prim.Native.Nat.{ℕ, suc, ◌+◌, ◌≤◌, ◌<◌}
use mathlib.Core.Path.{◌≡◌, sym, ap, ◌∙◌, subst}
use mathlib.Core.Bool.{Bool, true, false, cond}
use mathlib.Core.List.{List, [], ◌∷◌}
use native.Mathlib.Omega.{arith}
use lib.ListN.{length, drop, get_or, length-drop}
use lib.Seq.{drop-cons}
use borrow.Author.Tests.{eq-eqb, ne_eqb}
use Rattle.xml.specs.Characters.{'<', '&', ']', line_feed, carriage_return, begins, Front, found, cut, wrong, front_character, front_reference}
use Rattle.xml.specs.Tokens.{Token, char, reference, text_fault, outside_tags, Move, give, stop, with_front, outside_step, step, at_end}
use Rattle.xml.proofs.PlaceLaws.{at_give, at_stop, text_ends}
use Rattle.xml.proofs.FitLaws.{begins_fits, character_within}
use Rattle.std.specs.Prelude.{Err}
use Rattle.xml_front.specs.declared.Flaw.{Flaw}
use Rattle.xml_front.specs.declared.Flaw.TheVariants.{Cut, Wrong}
use Rattle.xml_front.specs.Fronts.{told, place_blamed}
use Rattle.xml_tag.specs.Markups.{Marked}
use Rattle.xml_tag.specs.declared.Markup.{Markup}
use Rattle.xml_tag.specs.declared.Markup.TheVariants.{Start, Close, Comment, Short, Fault}
use Rattle.xml_piece.specs.declared.Piece.{Piece}
use Rattle.xml_piece.specs.declared.Piece.TheVariants.{Start as StartPiece, Close as ClosePiece, Comment as CommentPiece, Character, Reference, CutTag, Fault as FaultPiece, TextFault, End}
use Rattle.xml_piece.specs.Pieces.{text_close, Plain, Stands, PieceRead, rest_at}
use Rattle.xml_piece.proofs.CodePointLaws.{character_bound, reference_bound, reference_within}

-- the text's end
pub text_over : (s : List ℕ) (at : ℕ) → at ≤ length s → length s ≤ at → PieceRead s at End
unfolding at_end
text_over s at h k =
    text_ends s outside_tags at h k ∙ ap (λ (j : ℕ). at_end outside_tags j ∷ []) (let z : length s ≡ at = omega arith in z)

-- a tag or a comment
abbrev pub as_piece : Markup → Piece
as_piece (Start name) = StartPiece name
as_piece (Close name next) = ClosePiece name next
as_piece (Comment next) = CommentPiece next
as_piece Short = CutTag
as_piece (Fault p) = FaultPiece p

marked : (s : List ℕ) (at : ℕ) (m : Markup) → Marked s outside_tags at at m → PieceRead s at (as_piece m)
marked s at (Start name) r = (record { ahead = r.ahead; inside = r.inside }, r.name, r.same)
marked s at (Close name next) r =
    (r.name, record { goes = record { ahead = r.ahead; inside = r.inside }; same = r.same })
marked s at (Comment next) r = (record { ahead = r.ahead; inside = r.inside }, r.same)
marked s at Short r = r
marked s at (Fault p) r = r

-- where it is known which of the five it is
pub markup_read : (s : List ℕ) (at : ℕ) (m n : Markup) → Marked s outside_tags at at m → m ≡ n → PieceRead s at (as_piece n)
markup_read s at m n r e = marked s at n (rw e at r)

-- one step, on the byte b with s behind it
module _ (at b : ℕ) (s : List ℕ) where
  -- a code point of text at the front, or a fault
  abbrev text_front : (ℕ → ℕ → Token) → Front → Move
  text_front token f = with_front f at (b ∷ s) (text_fault at) (text_fault at at) (λ c more. give (token at c ∷ []) more)

  reference_step : b ≡ '&' → outside_step at b s ≡ text_front reference (front_reference s)
  unfolding outside_step
  reference_step e = rw (ne_eqb b '<' (λ k. omega arith), eq-eqb b '&' e)

  return_step : b ≡ carriage_return
      → outside_step at b s ≡ give (char at line_feed ∷ []) (cond (begins (line_feed ∷ []) s) 1 0)
  unfolding outside_step begins
  return_step e =
      rw (
        ne_eqb b '<' (λ k. omega arith),
        ne_eqb b '&' (λ k. omega arith),
        ne_eqb ']' b (λ k. omega arith),
        eq-eqb b carriage_return e,
      )

  module _ (no_tag : b ≡ '<' → ⊥) (no_reference : b ≡ '&' → ⊥) where
    close_step : begins text_close (b ∷ s) ≡ true → outside_step at b s ≡ stop (text_fault at at)
    unfolding outside_step
    close_step e = rw (ne_eqb b '<' no_tag, ne_eqb b '&' no_reference, e)

    character_step : begins text_close (b ∷ s) ≡ false → (b ≡ carriage_return → ⊥)
        → outside_step at b s ≡ text_front char (front_character (b ∷ s))
    unfolding outside_step
    character_step e no_return =
        rw (ne_eqb b '<' no_tag, ne_eqb b '&' no_reference, e, ne_eqb b carriage_return no_return)

module _ (s : List ℕ) (at : ℕ) (h : at < length s) where
  abbrev byte : ℕ
  byte = get_or s at 0

  abbrev rest : List ℕ
  rest = drop (suc at) s

  here : drop at s ≡ byte ∷ rest
  here = drop-cons s at 0 h

  behind : drop (at + 1) s ≡ rest
  behind = ap (λ (j : ℕ). drop j s) (let z : at + 1 ≡ suc at = omega arith in z)

  -- a step that gives a token
  stands : (t : Token) (k : ℕ) → outside_step at byte rest ≡ give (t ∷ []) k → at + 1 + k ≤ length s
      → Stands s at t (at + 1 + k)
  unfolding step
  stands t k e fits =
      record {
        goes = record { ahead = omega arith; inside = fits };
        same = at_give s outside_tags at h (t ∷ []) k e (omega arith)
            ∙ ap (λ (j : ℕ). t ∷ rest_at s j) (let z : suc at + k ≡ at + 1 + k = omega arith in z);
      }

  -- a step by what stands at the front of text
  module _ (token : ℕ → ℕ → Token) (f : Front) (is_front : outside_step at byte rest ≡ text_front at byte rest token f) where
    front_found : (c w : ℕ) → f ≡ found c w → at + 1 + w ≤ length s → Stands s at (token at c) (at + 1 + w)
    front_found c w e fits = stands (token at c) w (is_front ∙ (unfold with_front in rw e)) fits

    front_cut : f ≡ cut → PieceRead s at (TextFault (length s))
    unfolding step
    front_cut e =
        let size = length-drop (suc at) s in
        at_stop s outside_tags at h (text_fault at (at + length (byte ∷ rest)))
        (is_front ∙ (unfold with_front in rw e))
        ∙ ap (λ (j : ℕ). text_fault at j ∷ []) (let z : at + length (byte ∷ rest) ≡ length s = omega arith in z)

    front_wrong : f ≡ wrong → PieceRead s at (TextFault at)
    unfolding step
    front_wrong e = at_stop s outside_tags at h (text_fault at at) (is_front ∙ (unfold with_front in rw e))

  -- a reference, by what stands behind its &
  module _ (is_reference : byte ≡ '&') where
    is_front : outside_step at byte rest ≡ text_front at byte rest reference (front_reference (drop (at + 1) s))
    is_front =
        reference_step at byte rest is_reference
        ∙ ap (λ (l : List ℕ). text_front at byte rest reference (front_reference l)) (sym behind)

    pub reference_read : (c w : ℕ) → front_reference (drop (at + 1) s) ≡ found c w → PieceRead s at (Reference c (at + 1 + w))
    reference_read c w e = (
      reference_bound (drop (at + 1) s) c w e,
      front_found reference (front_reference (drop (at + 1) s)) is_front c w e
          (reference_within s (at + 1) c w (omega arith) e),
    )

    pub reference_flawed : (f : Flaw) → front_reference (drop (at + 1) s) ≡ told (Err f)
        → PieceRead s at (TextFault (place_blamed f at (length s)))
    reference_flawed Cut e = front_cut reference (front_reference (drop (at + 1) s)) is_front e
    reference_flawed Wrong e = front_wrong reference (front_reference (drop (at + 1) s)) is_front e

  -- a line end
  module _ (is_return : byte ≡ carriage_return) where
    line_step : (x : Bool) → begins (line_feed ∷ []) (drop (at + 1) s) ≡ x
        → outside_step at byte rest ≡ give (char at line_feed ∷ []) (cond x 1 0)
    line_step x e =
        return_step at byte rest is_return
        ∙ ap (λ (y : Bool). give (char at line_feed ∷ []) (cond y 1 0)) (sym (ap (begins (line_feed ∷ [])) behind) ∙ e)

    -- CR LF
    pub two_read : begins (line_feed ∷ []) (drop (at + 1) s) ≡ true → PieceRead s at (Character line_feed (at + 1 + 1))
    two_read e = (
      omega arith,
      stands (char at line_feed) 1 (line_step true e)
          (omega (arith, begins_fits (line_feed ∷ []) (drop (at + 1) s) e, length-drop (at + 1) s)),
    )

    -- CR
    pub one_read : begins (line_feed ∷ []) (drop (at + 1) s) ≡ false → PieceRead s at (Character line_feed (at + 1))
    one_read e = (
      omega arith,
      subst (λ (j : ℕ). Stands s at (char at line_feed) j) (let z : at + 1 + 0 ≡ at + 1 = omega arith in z)
          (stands (char at line_feed) 0 (line_step false e) (omega arith)),
    )

  -- "]]>"
  pub close_read : (byte ≡ '<' → ⊥) → (byte ≡ '&' → ⊥) → begins text_close (drop at s) ≡ true
      → PieceRead s at (TextFault at)
  unfolding step
  close_read no_tag no_reference e =
      at_stop s outside_tags at h (text_fault at at)
      (close_step at byte rest no_tag no_reference (sym (ap (begins text_close) here) ∙ e))

-- any other character
module _ (s : List ℕ) (at : ℕ) (plain : Plain s at) where
  is_character : outside_step at (get_or s at 0) (drop (suc at) s)
      ≡ text_front at (get_or s at 0) (drop (suc at) s) char (front_character (drop at s))
  is_character =
      character_step at (get_or s at 0) (drop (suc at) s) plain.no_tag plain.no_reference
      (sym (ap (begins text_close) (here s at plain.inside)) ∙ plain.no_close) plain.no_return
      ∙ ap (λ (l : List ℕ). text_front at (get_or s at 0) (drop (suc at) s) char (front_character l))
      (sym (here s at plain.inside))

  pub character_read : (c w : ℕ) → front_character (drop at s) ≡ found c w → PieceRead s at (Character c (at + 1 + w))
  character_read c w e = (
    character_bound (drop at s) c w e,
    front_found s at plain.inside char (front_character (drop at s)) is_character c w e
        (character_within s at c w plain.inside e),
  )

  pub character_flawed : (f : Flaw) → front_character (drop at s) ≡ told (Err f)
      → PieceRead s at (TextFault (place_blamed f at (length s)))
  character_flawed Cut e = front_cut s at plain.inside char (front_character (drop at s)) is_character e
  character_flawed Wrong e = front_wrong s at plain.inside char (front_character (drop at s)) is_character e
