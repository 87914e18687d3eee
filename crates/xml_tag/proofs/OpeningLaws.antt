-- From the < on: whether a comment opens, or a tag.
use Prim.Native.Nat.{ℕ, suc, ◌+◌, ◌≤◌, ◌<◌}
use mathlib.Core.Path.{◌≡◌, refl, sym, ap, ◌∙◌}
use mathlib.Core.Bool.{Bool, true, false, true≢false}
use mathlib.Core.List.{List, [], ◌∷◌}
use native.Mathlib.Omega.{arith}
use lib.ListN.{length, drop, get_or, length-drop, drop_of_length-le}
use lib.Dec.{ltb}
use borrow.Author.Tests.{eq-eqb, ltb-true, ltb-false}
use Rattle.xml.specs.Characters.{'<', begins}
use Rattle.xml.specs.Tokens.{fault, outside_tags, comment, in_name, comment_opens, outside_step, step}
use Rattle.xml.specs.Places.{tokens_at}
use Rattle.xml.proofs.PlaceLaws.{at_go, at_stop, to_next}
use Rattle.xml_tag.specs.declared.Markup.{Markup}
use Rattle.xml_tag.specs.declared.Markup.TheVariants.{Fault}
use Rattle.xml_tag.specs.Markups.{Marked, InComment}
use Rattle.xml_tag.proofs.MarkedLaws.{carry}
use Rattle.xml_tag.proofs.CommentLaws.{room}

-- where what is left is not the beginning of a word, something is left
pub something_left : (s w : List ℕ) (i : ℕ) → begins (drop i s) w ≡ false → i < length s
something_left s w i e = by (ltb i (length s)) refl
  where
    nothing : (l : List ℕ) → l ≡ [] → begins l w ≡ true
    nothing l g = rw g (unfold begins in refl)

    by : (x : Bool) → ltb i (length s) ≡ x → i < length s
    by true h = ltb-true i (length s) h
    by false h =
        absurd (true≢false (sym (nothing (drop i s) (drop_of_length-le s {i = i} (ltb-false i (length s) h))) ∙ e))

module _ (s : List ℕ) (at : ℕ) (h : at < length s) (is_tag : get_or s at 0 ≡ '<') where
  next_is : drop (at + 1) s ≡ drop (suc at) s
  next_is = ap (λ (j : ℕ). drop j s) (let z : at + 1 ≡ suc at = omega arith in z)

  opens : (x : Bool) → begins comment_opens (drop (at + 1) s) ≡ x → begins comment_opens (drop (suc at) s) ≡ x
  opens x e = sym (ap (begins comment_opens) next_is) ∙ e

  within : (x : Bool) → begins (drop (at + 1) s) comment_opens ≡ x → begins (drop (suc at) s) comment_opens ≡ x
  within x e = sym (ap (λ (l : List ℕ). begins l comment_opens) next_is) ∙ e

  pub comment_fits : begins comment_opens (drop (at + 1) s) ≡ true → at + 1 + 3 ≤ length s
  comment_fits e = room comment_opens s (at + 1) 3 e (omega arith) refl

  pub opens_comment : begins comment_opens (drop (at + 1) s) ≡ true → (r : Markup) → InComment s (at + 1 + 3) r
      → Marked s outside_tags at at r
  opens_comment e r x =
      let fits = comment_fits e in
      carry s outside_tags comment at at (at + 1 + 3) r (omega arith)
      (at_go s outside_tags at h comment 3
      (unfold step outside_step in rw (eq-eqb (get_or s at 0) '<' is_tag, opens true e)) (omega arith)
      ∙ ap (tokens_at s comment) (let z : suc at + 3 ≡ at + 1 + 3 = omega arith in z)) (x at)

  module _ (no_comment : begins comment_opens (drop (at + 1) s) ≡ false) where
    pub opening_cut : begins (drop (at + 1) s) comment_opens ≡ true → Marked s outside_tags at at (Fault (length s))
    opening_cut e =
        let size = length-drop (suc at) s in
        at_stop s outside_tags at h (fault (at + length (get_or s at 0 ∷ drop (suc at) s)))
        (unfold step outside_step in
        rw (eq-eqb (get_or s at 0) '<' is_tag, opens false no_comment, within true e))
        ∙ ap (λ (j : ℕ). fault j ∷ [])
        (let g : at + length (get_or s at 0 ∷ drop (suc at) s) ≡ length s = omega arith in g)

    pub opens_tag : begins (drop (at + 1) s) comment_opens ≡ false → (r : Markup)
        → Marked s (in_name at false []) at (at + 1) r → Marked s outside_tags at at r
    opens_tag e r x =
        carry s outside_tags (in_name at false []) at at (at + 1) r (omega arith)
        (to_next s outside_tags at h (in_name at false [])
        (unfold step outside_step in
        rw (eq-eqb (get_or s at 0) '<' is_tag, opens false no_comment, within false e))) x
