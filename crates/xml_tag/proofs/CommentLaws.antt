-- Comments: what a place in them makes of the tokens.
use Prim.Native.Nat.{ℕ, suc, ◌+◌, ◌-◌, ◌≤◌, ◌<◌}
use mathlib.Core.Path.{◌≡◌, refl, sym, ap, ◌∙◌}
use mathlib.Core.Bool.{Bool, true, false}
use mathlib.Core.List.{List, [], ◌∷◌}
use native.Mathlib.Omega.{arith}
use lib.ListN.{length, drop, get_or, length-drop}
use lib.Seq.{drop-cons}
use lib.Dec.{eqb}
use borrow.Author.Tests.{eqb-true, eq-eqb}
use Rattle.xliff.specs.Bytes.{equal}
use Rattle.xliff.proofs.lists.Tests.{and_left, and_right, equal_true}
use Rattle.xml.specs.Characters.{hyphen, '>', begins, found, front_character}
use Rattle.xml.specs.Tokens.{fault, outside_tags, comment, stop, with_front, comment_step, step, at_end}
use Rattle.xml.specs.Places.{tokens_at}
use Rattle.xml.proofs.PlaceLaws.{at_go, at_stop, text_ends}
use Rattle.xml.proofs.FitLaws.{begins_fits, character_within}
use Rattle.xml_tag.specs.declared.Markup.{Markup}
use Rattle.xml_tag.specs.declared.Markup.TheVariants.{Comment, Fault}
use Rattle.std.specs.Prelude.{Err}
use Rattle.xml_front.specs.declared.Flaw.{Flaw}
use Rattle.xml_front.specs.declared.Flaw.TheVariants.{Cut, Wrong}
use Rattle.xml_front.specs.Fronts.{told, place_blamed}
use Rattle.xml_tag.specs.Markups.{hyphens, InComment}
use Rattle.xml_tag.proofs.MarkedLaws.{carry}

-- bytes of the same length that begin so are equal
begins_equal : (w l : List ℕ) → begins w l ≡ true → length l ≡ length w → equal l w ≡ true
unfolding begins equal
begins_equal [] [] h e = refl
begins_equal [] (b ∷ l) h e = absurd (let z : ⊥ = omega arith in z)
begins_equal (a ∷ w) [] h e = absurd (let z : ⊥ = omega arith in z)
begins_equal (a ∷ w) (b ∷ l) h e =
    let same : b ≡ a = sym (eqb-true a b (and_left (eqb a b) _ h)) in
    rw (eq-eqb b a same) (begins_equal w l (and_right (eqb a b) _ h) (omega arith))

other_length : (w l : List ℕ) → (length l ≡ length w → ⊥) → equal l w ≡ false
other_length w l h = by (equal l w) refl
  where
    by : (x : Bool) → equal l w ≡ x → x ≡ false
    by true e = absurd (h (ap length (equal_true l w e)))
    by false e = refl

-- where bytes begin so, they are there
pub room : (w s : List ℕ) (i n : ℕ) → begins w (drop i s) ≡ true → i ≤ length s → length w ≡ n → i + n ≤ length s
room w s i n e h k = omega (arith, begins_fits w (drop i s) e, length-drop i s)

module _ (s : List ℕ) (i : ℕ) (h : i < length s) where
  step_is : step comment i (get_or s i 0) (drop (suc i) s) ≡ comment_step i (drop i s)
  unfolding step
  step_is = ap (comment_step i) (sym (drop-cons s i 0 h))

  -- a step that blames the text's end
  at_the_end : comment_step i (drop i s) ≡ stop (fault (i + length (drop i s)))
      → tokens_at s comment i ≡ fault (length s) ∷ []
  at_the_end e =
      let size = length-drop i s in
      at_stop s comment i h (fault (i + length (drop i s))) (step_is ∙ e)
      ∙ ap (λ (j : ℕ). fault j ∷ []) (let z : i + length (drop i s) ≡ length s = omega arith in z)

  -- two hyphens
  module _ (two : begins hyphens (drop i s) ≡ true) where
    pub comment_closed : begins (hyphen ∷ hyphen ∷ '>' ∷ []) (drop i s) ≡ true → InComment s i (Comment (i + 3))
    comment_closed e p =
        let fits : i + 3 ≤ length s = room (hyphen ∷ hyphen ∷ '>' ∷ []) s i 3 e (omega arith) refl in
        record {
          ahead = omega arith;
          inside = fits;
          same = at_go s comment i h outside_tags 2 (step_is ∙ (unfold comment_step in rw (two, e))) (omega arith)
              ∙ ap (tokens_at s outside_tags) (let z : suc i + 2 ≡ i + 3 = omega arith in z);
        }

    module _ (no_end : begins (hyphen ∷ hyphen ∷ '>' ∷ []) (drop i s) ≡ false) where
      cut_step : equal (drop i s) hyphens ≡ true → comment_step i (drop i s) ≡ stop (fault (i + length (drop i s)))
      unfolding comment_step
      cut_step q = rw (two, no_end, q)

      wrong_step : equal (drop i s) hyphens ≡ false → comment_step i (drop i s) ≡ stop (fault i)
      unfolding comment_step
      wrong_step q = rw (two, no_end, q)

      pub hyphens_cut : length s - i ≡ 2 → InComment s i (Fault (length s))
      hyphens_cut k p =
          let size = length-drop i s in
          at_the_end (cut_step (begins_equal hyphens (drop i s) two (omega arith)))

      pub hyphens_wrong : (length s - i ≡ 2 → ⊥) → InComment s i (Fault i)
      hyphens_wrong k p =
          let size = length-drop i s in
          at_stop s comment i h (fault i)
          (step_is ∙ wrong_step (other_length hyphens (drop i s) (λ x. k (omega arith))))

-- a comment so far, from a place to another
pub record CommentSoFar (s : List ℕ) (from at : ℕ) : Type 0 where
  pub low : from ≤ at
  pub high : at ≤ length s
  pub same : tokens_at s comment from ≡ tokens_at s comment at

pub comment_begins : (s : List ℕ) (from : ℕ) → from ≤ length s → CommentSoFar s from from
comment_begins s from h = record { low = omega arith; high = h; same = refl }

module _ (s : List ℕ) (from i : ℕ) (so_far : CommentSoFar s from i) where
  pub comment_read : (r : Markup) → InComment s i r → InComment s from r
  comment_read r x p = carry s comment comment p from i r so_far.low so_far.same (x p)

  pub comment_ends : length s ≤ i → InComment s from (Fault (length s))
  unfolding at_end
  comment_ends k p = so_far.same ∙ text_ends s comment i so_far.high k

  -- no hyphens
  module _ (h : i < length s) (none : begins hyphens (drop i s) ≡ false) where
    pub comment_goes_on : (c w : ℕ) → front_character (drop i s) ≡ found c w → CommentSoFar s from (i + 1 + w)
    comment_goes_on c w e =
        let low = so_far.low in
        let fits = character_within s i c w h e in
        record {
          low = omega arith;
          high = fits;
          same = so_far.same
              ∙ at_go s comment i h comment w (step_is s i h ∙ (unfold comment_step with_front in rw (none, e))) (omega arith)
              ∙ ap (tokens_at s comment) (let z : suc i + w ≡ i + 1 + w = omega arith in z);
        }

    pub comment_flawed : (f : Flaw) → front_character (drop i s) ≡ told (Err f)
        → InComment s from (Fault (place_blamed f i (length s)))
    comment_flawed Cut e p = so_far.same ∙ at_the_end s i h (unfold comment_step with_front in rw (none, e))
    comment_flawed Wrong e p =
        so_far.same
        ∙ at_stop s comment i h (fault i) (step_is s i h ∙ (unfold comment_step with_front in rw (none, e)))
