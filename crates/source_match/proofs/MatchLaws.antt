-- The four tests of rule 10 of one item, and of the first items.
use Prim.Native.Nat.{ℕ, zero, suc, ◌/◌, ◌≤◌, ◌<◌}
use mathlib.Core.Path.{◌≡◌, refl, sym, ◌∙◌, ap}
use mathlib.Core.Bool.{Bool, true, false, ◌||◌}
use mathlib.Core.List.{List, [], ◌∷◌}
use native.Mathlib.Omega.{arith}
use lib.ListN.{length, take, get_or}
use lib.Dec.{eqb}
use Rattle.xliff.specs.Bytes.{any}
use Rattle.xliff.specs.Item as spec
use Rattle.xliff.specs.Item.{id_of}
use Rattle.xliff.proofs.lists.Tests.{or_none, or_assoc}
use Rattle.id_links.specs.Nearest.{previous}
use Rattle.id_links.proofs.Chains.{any_past}
use Rattle.places.specs.Markers.{item_at}
use Rattle.views.specs.Views.{view_of, items_of_markers}
use Rattle.views.specs.declared.View.{View}
use Rattle.keys.specs.Keys.{key}
use Rattle.keys.proofs.KeyLaws.{id_key_lem}
use Rattle.source_match.specs.declared.Matches.{Matches}
use Rattle.source_match.specs.Ten.{view_starts_id, other_class_view, agrees_with, may_copy_view, test_by, matches_of, matches_by, none_found, joined}

-- field by field
pub same_matches : {f g : Matches} → f.starts ≡ g.starts → f.differs ≡ g.differs → f.agrees ≡ g.agrees → f.copies ≡ g.copies → f ≡ g
same_matches a b c d i = record { starts = a i; differs = b i; agrees = c i; copies = d i }

or_swap : (a b c : Bool) → a || (b || c) ≡ b || (a || c)
or_swap true true c = refl
or_swap true false c = refl
or_swap false b c = refl

pub joined_apart : (f g h : Matches) → joined (joined f g) h ≡ joined f (joined g h)
joined_apart f g h =
    same_matches (or_assoc f.starts g.starts h.starts) (or_assoc f.differs g.differs h.differs)
    (or_assoc f.agrees g.agrees h.agrees) (or_assoc f.copies g.copies h.copies)

pub joined_none : (f : Matches) → joined f none_found ≡ f
joined_none f = same_matches (or_none f.starts) (or_none f.differs) (or_none f.agrees) (or_none f.copies)

-- one item, by its key
module _ (id : ℕ) (x : View) (y : spec.Item) where
  pub test_other_id : (test : View → View → Bool) → eqb (id_of y) id ≡ false → test_by test id x y ≡ false
  unfolding test_by
  test_other_id test e = rw e refl

  test_same_id : (test : View → View → Bool) → eqb (id_of y) id ≡ true → test_by test id x y ≡ test x (view_of y)
  unfolding test_by
  test_same_id test e = rw e refl

  id_is : (k : ℕ) → k ≡ key y → eqb (id_of y) id ≡ eqb (k / 64) id
  id_is k e = sym (ap (λ (n : ℕ). eqb (n / 64) id) e ∙ ap (λ (n : ℕ). eqb n id) (id_key_lem y))

  pub matches_other_id : (k : ℕ) (f : Matches) → k ≡ key y → eqb (k / 64) id ≡ false → f ≡ joined f (matches_by id x y)
  matches_other_id k f e h =
      let g = id_is k e ∙ h in
      sym (ap (joined f) (same_matches (test_other_id view_starts_id g) (test_other_id other_class_view g) (test_other_id agrees_with g) (test_other_id may_copy_view g)) ∙ joined_none f)

  pub matches_same_id : (k : ℕ) → k ≡ key y → eqb (k / 64) id ≡ true → matches_of x (view_of y) ≡ matches_by id x y
  matches_same_id k e h =
      let g = id_is k e ∙ h in
      sym (same_matches (test_same_id view_starts_id g) (test_same_id other_class_view g) (test_same_id agrees_with g) (test_same_id may_copy_view g))

-- the first items, and what a search among them may pass over
module _ (p : spec.Item → Bool) (t : List ℕ) where
  pub items_last : (markers : List ℕ) (i : ℕ) → i < length markers → any p (items_of_markers t (take (suc i) markers)) ≡ p (item_at t (get_or markers i 0)) || any p (items_of_markers t (take i markers))
  unfolding any items_of_markers
  items_last [] i h = absurd (omega arith)
  items_last (o ∷ markers) zero h = refl
  items_last (o ∷ markers) (suc i) h = ap (λ (b : Bool). p (item_at t o) || b) (items_last markers i (omega arith))
      ∙ or_swap (p (item_at t o)) (p (item_at t (get_or markers i 0))) (any p (items_of_markers t (take i markers)))

  any_at : (markers : List ℕ) → any p (items_of_markers t markers) ≡ any (λ (o : ℕ). p (item_at t o)) markers
  unfolding any items_of_markers
  any_at [] = refl
  any_at (o ∷ markers) = ap (λ (b : Bool). p (item_at t o) || b) (any_at markers)

  pub items_past : (markers : List ℕ) (q : ℕ → Bool) → ((k : ℕ) → k < length markers → q k ≡ false → p (item_at t (get_or markers k 0)) ≡ false)
      → (i : ℕ) → i ≤ length markers → any p (items_of_markers t (take i markers)) ≡ any p (items_of_markers t (take (previous q i) markers))
  items_past markers q wider i h = any_at (take i markers) ∙ any_past (λ (o : ℕ). p (item_at t o)) q markers wider i h ∙ sym (any_at (take (previous q i) markers))
