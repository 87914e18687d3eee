-- A pair of a sequence is one of its markers: texts and characters are no halves.
use Prim.Native.Nat.{ℕ}
use mathlib.Core.Path.{◌≡◌, refl, sym, ap, ◌∙◌}
use mathlib.Core.Bool.{Bool, true, false, ◌&&◌, cond, true≢false}
use mathlib.Core.List.{List, [], ◌∷◌}
use lib.ListN.{length}
use lib.Dec.{eqb}
use borrow.Author.Tests.{eq-eqb, ne_eqb}
use Rattle.xliff.specs.Bytes.{'S', keep}
use Rattle.xliff.specs.Item.{Item, Content, start, end, text, character, standalone, isolated, pair, annotation_start, annotation_end, class, half, id_of, is_start_half, other_half}
use Rattle.xliff.specs.Unit.{Part, source_sequence, target_sequence}
use Rattle.xliff.specs.Parse.{unit}
use Rattle.xliff.specs.Sequences.{located, items, placed_target_sequence}
use Rattle.xliff.specs.Rules.{nearest}
use Rattle.xliff.specs.Rewrite.{ended_by, find_whole, side_sequence}
use Rattle.xliff.proofs.rules.Sequences.{items_target}
use Rattle.places.specs.Passes.{Passes}
use Rattle.places.specs.Markers.{is_marked, only_markers, placed_at, target_offsets}
use Rattle.places.proofs.Tests.{targets_back, source_items, length_located, marked_items}
use Rattle.views.specs.Views.{items_of_markers}
use Rattle.views.proofs.ViewLaws.{items_at}
use Rattle.sequences.specs.Marks.{offsets}
use Rattle.halves.proofs.Others.{other_unmarked, nearest_marked}

no_start_half : (y : Item) → is_marked y ≡ false → is_start_half y ≡ false
unfolding is_marked class half
no_start_half (text c) e = refl
no_start_half (character c) e = refl
no_start_half (standalone f) e = refl
no_start_half (isolated start f) e = refl
no_start_half (isolated end f) e = refl
no_start_half (pair h w f) e = absurd (true≢false e)
no_start_half (annotation_start w i l) e = absurd (true≢false e)
no_start_half (annotation_end w i) e = absurd (true≢false e)

whole_marked : (i : ℕ) (xs : Content) → find_whole i xs ≡ find_whole i (only_markers xs)
unfolding find_whole only_markers keep
whole_marked i [] = refl
whole_marked i (x ∷ xs) = by (is_marked x) refl (whole_marked i xs)
  where
    by : (b : Bool) → is_marked x ≡ b → find_whole i xs ≡ find_whole i (keep is_marked xs)
        → cond (is_start_half x && eqb (id_of x) i) (ended_by x (nearest (other_half x) xs)) (find_whole i xs)
        ≡ find_whole i (cond b (x ∷ keep is_marked xs) (keep is_marked xs))
    by true e ih = rw (nearest_marked (other_half x) (other_unmarked x) xs, ih)
    by false e ih = rw (no_start_half x e) ih

module _ (t : List ℕ) (p : Passes t) (i : ℕ) where
  pub source_whole : find_whole i (items_of_markers t (offsets true 0 t)) ≡ find_whole i (source_sequence (unit t).parts)
  unfolding offsets
  source_whole = ap (find_whole i) (sym (items_at t (offsets true 0 t)) ∙ sym (source_items t p)) ∙ sym (whole_marked i (source_sequence (unit t).parts))

  target_items_are : only_markers (target_sequence (unit t).parts) ≡ items_of_markers t (target_offsets t 0 (length (unit t).parts))
  unfolding located placed_target_sequence
  target_items_are =
      ap only_markers (sym (items_target 3 (unit t).parts))
      ∙ sym (marked_items (placed_target_sequence (located (unit t).parts)))
      ∙ ap items (sym (targets_back t p 0 (length (located (unit t).parts))))
      ∙ ap (λ (n : ℕ). items (placed_at t (target_offsets t 0 n))) (length_located (unit t).parts)
      ∙ items_at t (target_offsets t 0 (length (unit t).parts))

  pub target_whole : find_whole i (items_of_markers t (target_offsets t 0 (length (unit t).parts))) ≡ find_whole i (target_sequence (unit t).parts)
  target_whole = ap (find_whole i) (sym target_items_are) ∙ sym (whole_marked i (target_sequence (unit t).parts))

pub of_source : (side : ℕ) (ps : List Part) → side ≡ 'S' → side_sequence side ps ≡ source_sequence ps
unfolding side_sequence
of_source side ps e = rw (eq-eqb side 'S' e)

pub of_target : (side : ℕ) (ps : List Part) → (side ≡ 'S' → ⊥) → side_sequence side ps ≡ target_sequence ps
unfolding side_sequence
of_target side ps e = rw (ne_eqb side 'S' e)
