-- The tests of rule 8 on views are the specification's.
use Prim.Native.Nat.{ℕ, suc, ◌+◌, ◌<◌}
use mathlib.Core.Path.{◌≡◌, refl, sym, ap, ap₂, ◌∙◌}
use mathlib.Core.Bool.{Bool, true, false, not, ◌&&◌, ◌||◌}
use mathlib.Core.List.{List}
use mathlib.Core.Option.{Option, some}
use lib.Dec.{eqb}
use lib.ListN.{length, drop}
use Rattle.xliff.specs.Bytes.{any, among}
use Rattle.xliff.specs.Item.{Item, Content, class, half, is_fixed, fields, other_half}
use Rattle.xliff.specs.Rules.{nearest, end_letter, ill_matched, ill_ended, fixed_but_free, is_F, unled, bad_8_target, bad_8_source}
use Rattle.xliff.specs.Sequences.{items}
use Rattle.places.specs.Markers.{placed_at}
use Rattle.xliff.proofs.lists.Tests.{or_none, or_assoc, and_false}
use Rattle.views.specs.declared.View.{View}
use Rattle.views.specs.Views.{view_of}
use Rattle.keys.specs.Keys.{keys_at}
use Rattle.halves.specs.Nearest.{half_before, earlier, marker_at}
use Rattle.halves.proofs.Others.{before_is}
use Rattle.halves.proofs.Runs.{earlier_on, found_at, found_some, nearest_previous}
use Rattle.letters.specs.Eight.{bad_8, ill_end, ill_matched_views, is_leading, fixed_free, unled_view, bad_alone}
use Rattle.views.proofs.ViewLaws.{code_same}

-- an F that was met
leading_is : (x : Item) → is_leading (view_of x) ≡ is_F x
unfolding is_F view_of
leading_is x = ap (λ (b : Bool). b && eqb (fields x).can_reorder 70) (code_same x)

pub led_on : (t markers : List ℕ) (i : ℕ) (v : View) (led : Bool) → v ≡ view_of (marker_at t markers i) → led ≡ any is_F (earlier (marker_at t markers) i)
    → is_leading v || led ≡ any is_F (earlier (marker_at t markers) (i + 1))
unfolding any
led_on t markers i v led e f =
    ap₂ ◌||◌ (ap is_leading e ∙ leading_is (marker_at t markers i)) f ∙ ap (any is_F) (earlier_on (marker_at t markers) i)

-- what is wrong with a code by itself
fixed_is : (x : Item) → fixed_free (view_of x) ≡ fixed_but_free x
unfolding fixed_but_free is_fixed among view_of
fixed_is x =
    ap₂ (λ (b c : Bool). b && (eqb (fields x).can_reorder 70 || c) && (eqb (fields x).can_copy 89 || eqb (fields x).can_delete 89)) (code_same x)
    (sym (or_none (eqb (fields x).can_reorder 78)))

unled_is : (x : Item) (before : Content) (led : Bool) → led ≡ any is_F before → unled_view led (view_of x) ≡ unled before x
unfolding unled view_of
unled_is x before led e = ap₂ (λ (b c : Bool). b && (eqb (fields x).can_reorder 78 && not c)) (code_same x) e

pub eight_is : (source : Bool) (before : Content) (x : Item) (after : Content) (led : Bool) → led ≡ any is_F before
    → ill_end before x || bad_alone source led (view_of x) ≡ bad_8 source before x after
unfolding bad_8_source bad_8_target
eight_is true before x after led e =
    sym (or_assoc (ill_end before x) (fixed_free (view_of x)) (unled_view led (view_of x)))
    ∙ ap₂ (λ (f u : Bool). ill_end before x || f || u) (fixed_is x) (unled_is x before led e)
eight_is false before x after led e = ap (λ (f : Bool). ill_end before x || f) (or_none (fixed_free (view_of x)) ∙ fixed_is x)

-- the same of the code's two tests of the marker at an index
pub eight_bad : (source : Bool) (t markers : List ℕ) (i : ℕ) (v : View) (led ill alone : Bool) → v ≡ view_of (marker_at t markers i)
    → led ≡ any is_F (earlier (marker_at t markers) i) → ill ≡ ill_end (earlier (marker_at t markers) i) (marker_at t markers i) → alone ≡ bad_alone source led v
    → ill || alone ≡ bad_8 source (earlier (marker_at t markers) i) (marker_at t markers i) (items (placed_at t (drop (suc i) markers)))
eight_bad source t markers i v led ill alone e f g h =
    ap₂ ◌||◌ g (h ∙ ap (bad_alone source led) e)
    ∙ eight_is source (earlier (marker_at t markers) i) (marker_at t markers i) (items (placed_at t (drop (suc i) markers))) led f

-- an end and its start
matched_is : (x y : Item) → ill_matched_views (view_of y) (view_of x) ≡ ill_ended x (some y)
unfolding ill_ended ill_matched end_letter view_of
matched_is x y = refl

module _ (t markers : List ℕ) (i : ℕ) (v : View) (e : v ≡ view_of (marker_at t markers i)) where
  pub no_end : eqb v.class 2 && eqb v.half 2 ≡ false → false ≡ ill_end (earlier (marker_at t markers) i) (marker_at t markers i)
  unfolding view_of
  no_end h = let k : eqb (class (marker_at t markers i)) 2 && eqb (half (marker_at t markers i)) 2 ≡ false = rw e at h in rw k

  module _ (h : i < length markers) where
    start_is : nearest (other_half (marker_at t markers i)) (earlier (marker_at t markers) i) ≡ found_at (marker_at t markers) (half_before (keys_at t markers) i)
    start_is = nearest_previous (other_half (marker_at t markers i)) (marker_at t markers) i ∙ ap (found_at (marker_at t markers)) (sym (before_is t markers i h))

    pub no_start : half_before (keys_at t markers) i ≡ 0 → false ≡ ill_end (earlier (marker_at t markers) i) (marker_at t markers i)
    unfolding ill_ended found_at
    no_start z = rw (start_is, z, and_false)

    pub with_start : (j : ℕ) → half_before (keys_at t markers) i ≡ j + 1 → eqb v.class 2 && eqb v.half 2 ≡ true → (y : View) (m : Bool) → y ≡ view_of (marker_at t markers j)
        → m ≡ ill_matched_views y v → m ≡ ill_end (earlier (marker_at t markers) i) (marker_at t markers i)
    unfolding view_of
    with_start j z h y m q u =
        let k : eqb (class (marker_at t markers i)) 2 && eqb (half (marker_at t markers i)) 2 ≡ true = rw e at h in
        u ∙ ap (λ (x : View). ill_matched_views x v) q
        ∙ ap (ill_matched_views (view_of (marker_at t markers j))) e
        ∙ matched_is (marker_at t markers i) (marker_at t markers j)
        ∙ ap₂ (λ (b : Bool) (o : Option Item). b && ill_ended (marker_at t markers i) o) (sym k) (sym (start_is ∙ found_some (marker_at t markers) _ j z))
