-- Blanks and comments passed over outside of contents, and what stands behind them.
use Prim.Native.Nat.{ℕ, ◌≤◌}
use mathlib.Core.Path.{◌≡◌, refl, subst}
use mathlib.Core.Bool.{true, false}
use mathlib.Core.Logic.{◌⊎◌, inl, inr}
use mathlib.Core.List.{List, [], ◌∷◌}
use native.Mathlib.Omega.{arith}
use lib.ListN.{length}
use Rattle.std.specs.Prelude.{Ok}
use Rattle.xml.specs.Characters.{is_blank}
use Rattle.xml.specs.Tokens.{Token, char, reference, fault, text_fault}
use Rattle.xml_piece.specs.declared.Piece.{Piece}
use Rattle.xml_piece.specs.declared.Piece.TheVariants.{Start, Close, Comment, Character, Reference, CutTag, Fault, TextFault, End}
use Rattle.xml_piece.specs.Pieces.{rest_at, Ahead, PieceRead}
use Rattle.xml_passages.specs.Passages.{Alike, OuterBlames}
use Rattle.xml_passages.proofs.OuterLaws.{alike_then, alike_as, alike_blames, blank_alike, text_blames, outer_reference, outer_fault, outer_text_fault}
use Rattle.xml_names.specs.declared.Span.{Span}
use Rattle.xml_part.specs.declared.Outer.TheVariants.{Start as OuterStart, Close as OuterClose, Cut, End as OuterEnd}
use Rattle.xml_part.specs.Parts.{OuterRead}

alike_self : (a : List Token) → Alike a a
unfolding Alike
alike_self a d = refl

-- only blanks and comments stand between two places
pub record Passing (text : List ℕ) (start at : ℕ) : Type 0 where
  pub low : start ≤ at
  pub high : at ≤ length text
  pub alike : Alike (rest_at text start) (rest_at text at)

pub no_passing : (text : List ℕ) (start : ℕ) → start ≤ length text → Passing text start start
no_passing text start h = record { low = omega arith; high = h; alike = alike_self (rest_at text start) }

module _ (text : List ℕ) (start at : ℕ) (s : Passing text start at) (m : Piece) (r : PieceRead text at m) where
  known : {n : Piece} → m ≡ n → PieceRead text at n
  known e = subst (PieceRead text at) e r

  -- a place ahead of this one is ahead of the first
  ahead_of_start : {next : ℕ} → Ahead text at next → Ahead text start next
  ahead_of_start goes = record { ahead = omega (arith, s.low, goes.ahead); inside = goes.inside }

  alike_to : (b : List Token) → rest_at text at ≡ b → Alike (rest_at text start) b
  alike_to b e = alike_as (rest_at text start) (rest_at text at) b s.alike e

  on : {next : ℕ} → Ahead text at next → Alike (rest_at text at) (rest_at text next) → Passing text start next
  on {next} goes k =
      record {
        low = omega (arith, s.low, goes.ahead);
        high = goes.inside;
        alike = alike_then (rest_at text start) (rest_at text at) (rest_at text next) s.alike k;
      }

  blamed : (b : List Token) (p : ℕ) → rest_at text at ≡ b → OuterBlames b p → OuterBlames (rest_at text start) p
  blamed b p e k = alike_blames (rest_at text start) b p (alike_to b e) k

  pub tag_found : {name : Span} → m ≡ Start name
      → OuterRead text start (Ok (OuterStart (record { place = at; name = name })))
  tag_found e = let k = known e in (ahead_of_start k.0, k.1, alike_to _ k.2)

  pub end_found : {name : Span} {next : ℕ} → m ≡ Close name next
      → OuterRead text start (Ok (OuterClose (record { place = at; name = name; next = next })))
  end_found e = let k = known e in (record { goes = ahead_of_start k.1.goes; name = k.0 }, alike_to _ k.1.same)

  pub comment_ahead : {next : ℕ} → m ≡ Comment next → Ahead text at next
  comment_ahead e = (known e).0

  pub comment_on : {next : ℕ} → m ≡ Comment next → Passing text start next
  comment_on {next} e =
      let k = known e in
      on k.0 (alike_as (rest_at text at) (rest_at text at) (rest_at text next) (alike_self (rest_at text at)) k.1)

  pub character_ahead : {c next : ℕ} → m ≡ Character c next → Ahead text at next
  character_ahead e = (known e).1.goes

  pub blank_on : {c next : ℕ} → m ≡ Character c next → is_blank c ≡ true → Passing text start next
  blank_on {c} {next} e b =
      let k = (known e).1 in
      on k.goes
      (alike_then (rest_at text at) (char at c ∷ rest_at text next) (rest_at text next)
      (alike_as (rest_at text at) (rest_at text at) (char at c ∷ rest_at text next) (alike_self (rest_at text at)) k.same)
      (blank_alike at (rest_at text next) c b))

  -- places at fault
  pub character_bad : {c next : ℕ} → m ≡ Character c next → is_blank c ≡ false → OuterBlames (rest_at text start) at
  character_bad {c} {next} e b =
      blamed (char at c ∷ rest_at text next) at (known e).1.same (text_blames at (rest_at text next) c b)

  pub text_bad : ((c : ℕ) × (next : ℕ) × (m ≡ Reference c next)) ⊎ ((p : ℕ) × (m ≡ TextFault p))
      → OuterBlames (rest_at text start) at
  text_bad (inl (c, next, e)) =
      blamed (reference at c ∷ rest_at text next) at (known e).1.same (outer_reference at (rest_at text next) c)
  text_bad (inr (p, e)) = blamed (text_fault at p ∷ []) at (known e) (outer_text_fault at [] p)

  pub cut_found : m ≡ CutTag → OuterRead text start (Ok (Cut at))
  cut_found e = alike_to _ (known e)

  pub fault_found : {p : ℕ} → m ≡ Fault p → OuterBlames (rest_at text start) p
  fault_found {p} e = blamed (fault p ∷ []) p (known e) (outer_fault p [])

  pub end_of_text : m ≡ End → OuterRead text start (Ok (OuterEnd at))
  end_of_text e = alike_to _ (known e)
