-- The tests of rule 10 on views are the specification's.
use Prim.Native.Nat.{ℕ, suc}
use mathlib.Core.Path.{◌≡◌, refl, ◌∙◌, ap, ap₂}
use mathlib.Core.Bool.{Bool, true, false, not, ◌&&◌, ◌||◌}
use mathlib.Core.List.{List, [], ◌∷◌}
use lib.Dec.{eqb}
use lib.ListN.{drop}
use Rattle.xliff.specs.Bytes.{any, among}
use Rattle.xliff.specs.Item as spec
use Rattle.xliff.specs.Item.{Content, alike, class, id_of, fields}
use Rattle.xliff.specs.Rules.{bad_10_source, bad_10_target, unlike_source, bad_copy, of_other_class, starts_id, agrees, same_half, may_copy}
use Rattle.xliff.specs.Sequences.{items}
use Rattle.places.specs.Markers.{placed_at}
use Rattle.halves.specs.Nearest.{earlier, marker_at}
use Rattle.views.specs.declared.View.{View}
use Rattle.views.specs.Views.{view_of}
use Rattle.views.proofs.ViewLaws.{code_same}
use Rattle.source_match.specs.Ten.{view_starts_id, other_class_view, agrees_with, may_copy_view, bad_ten_source, bad_ten_target}

ten_source_is : (before : Content) (x : spec.Item) (after : Content) → bad_ten_source (view_of x) ≡ bad_10_source before x after
unfolding bad_10_source view_of among
ten_source_is before x after = by (eqb (class x) 1) (eqb (class x) 2) (eqb (class x) 3) (eqb (class x) 4)
  where
    by : (a b c d : Bool) → (a || (b || (c || d))) && not (eqb (fields x).copy_of 0) ≡ (a || (b || (c || (d || false)))) && not (eqb (fields x).copy_of 0)
    by true b c d = refl
    by false true c d = refl
    by false false true d = refl
    by false false false true = refl
    by false false false false = refl

pub any_each : (p q : spec.Item → Bool) → ((x : spec.Item) → p x ≡ q x) → (l : List spec.Item) → any p l ≡ any q l
unfolding any
any_each p q e [] = refl
any_each p q e (x ∷ l) = ap₂ ◌||◌ (e x) (any_each p q e l)

module _ (x : spec.Item) where
  starts_same : (y : spec.Item) → view_starts_id (view_of x) (view_of y) ≡ starts_id (id_of x) y
  unfolding view_of starts_id
  starts_same y = refl

  class_same : (y : spec.Item) → other_class_view (view_of x) (view_of y) ≡ of_other_class x y
  unfolding view_of starts_id of_other_class
  class_same y = refl

  agrees_same : (y : spec.Item) → agrees_with (view_of x) (view_of y) ≡ agrees x y
  unfolding view_of agrees same_half alike
  agrees_same y = refl

  copies_same : (y : spec.Item) → may_copy_view (view_of x) (view_of y) ≡ may_copy x y
  unfolding view_of may_copy
  copies_same y = refl

  of_same : (view_of x).of ≡ (fields x).copy_of
  unfolding view_of
  of_same = refl

  ten_target_is : (source before after : Content) → bad_ten_target source (view_of x) ≡ bad_10_target source before x after
  unfolding bad_10_target unlike_source bad_copy
  ten_target_is source before after =
      rw (any_each _ _ class_same source, any_each _ _ starts_same source, any_each _ _ agrees_same source, any_each _ _ copies_same source, code_same x, of_same)

-- the code's tests of the marker at an index
module _ (t markers : List ℕ) (i : ℕ) (v : View) (b : Bool) (e : v ≡ view_of (marker_at t markers i)) where
  pub ten_source_bad : b ≡ bad_ten_source v → b ≡ bad_10_source (earlier (marker_at t markers) i) (marker_at t markers i) (items (placed_at t (drop (suc i) markers)))
  ten_source_bad f =
      f ∙ ap bad_ten_source e ∙ ten_source_is (earlier (marker_at t markers) i) (marker_at t markers i) (items (placed_at t (drop (suc i) markers)))

  pub ten_target_bad : (source : Content) → b ≡ bad_ten_target source v
      → b ≡ bad_10_target source (earlier (marker_at t markers) i) (marker_at t markers i) (items (placed_at t (drop (suc i) markers)))
  ten_target_bad source f =
      f ∙ ap (bad_ten_target source) e
      ∙ ten_target_is (marker_at t markers i) source (earlier (marker_at t markers) i) (items (placed_at t (drop (suc i) markers)))
