-- The test of rule 9 by keys and nearest other halves is the specification's.
use Prim.Native.Nat.{ℕ, suc, ◌+◌, ◌-◌, ◌≤◌, ◌<◌}
use mathlib.Core.Path.{◌≡◌, refl, sym, ap, ap₂, ◌∙◌}
use mathlib.Core.Bool.{Bool, true, false, not, ◌&&◌, ◌||◌}
use mathlib.Core.List.{List, ◌∷◌, ◌++◌}
use native.Mathlib.Omega.{arith}
use lib.Dec.{eqb, ltb}
use lib.ListN.{length, drop, get_or}
use Rattle.xliff.specs.Bytes.{any}
use Rattle.xliff.specs.Item.{Item, Content, class, half, fields, other_half}
use Rattle.xliff.specs.Sequences.{items}
use Rattle.xliff.specs.Rules.{enclosed, stray, any_stray, bad_9}
use Rattle.xliff.proofs.lists.Tests.{any_append, and_false}
use Rattle.places.specs.Markers.{placed_at}
use Rattle.views.specs.Views.{view_of}
use Rattle.keys.specs.Keys.{key, keys_at, class_key}
use Rattle.keys.proofs.KeyLaws.{class_key_lem, half_key_lem}
use Rattle.halves.specs.Nearest.{half_before, half_after, run, marker_at}
use Rattle.id_links.specs.Nearest.{next, previous}
use Rattle.id_links.proofs.Scans.{next_same, next_low}
use Rattle.halves.proofs.Runs.{items_run, run_split, any_next, any_previous, enclosed_some, enclosed_none}
use Rattle.halves.proofs.Others.{key_at, keys_long, before_is, after_is, not_own}
use Rattle.overlap.specs.Nine.{Halves, stray_key, stray_at, is_pair_start, closed_start}

module _ (t markers : List ℕ) where
  -- the other half of a marker that stands in a run stands there too if the nearest before or the nearest after does
  module _ (a e k : ℕ) (l : a ≤ k) (h : k < e) (m : e ≤ length markers) where
    around : run (marker_at t markers) a (e - a) ≡ run (marker_at t markers) a (k - a) ++ (marker_at t markers k ∷ run (marker_at t markers) (suc k) (e - suc k))
    unfolding run
    around =
        ap (run (marker_at t markers) a) (let z : e - a ≡ k - a + suc (e - suc k) = omega arith in z)
        ∙ run_split (marker_at t markers) (k - a) (suc (e - suc k)) a
        ∙ ap {B = Content} (λ (j : ℕ). run (marker_at t markers) a (k - a) ++ run (marker_at t markers) j (suc (e - suc k))) (let z : a + (k - a) ≡ k = omega arith in z)

    others_before : any (other_half (marker_at t markers k)) (run (marker_at t markers) a (k - a)) ≡ ltb a (half_before (keys_at t markers) k)
    others_before =
        any_previous (other_half (marker_at t markers k)) (marker_at t markers) (k - a) a
        ∙ ap (λ (j : ℕ). ltb a (previous (λ i. other_half (marker_at t markers k) (marker_at t markers i)) j)) (let z : a + (k - a) ≡ k = omega arith in z)
        ∙ ap (ltb a) (sym (before_is t markers k (omega arith)))

    others_after : any (other_half (marker_at t markers k)) (run (marker_at t markers) (suc k) (e - suc k)) ≡ ltb (half_after (keys_at t markers) k) e
    others_after =
        any_next (other_half (marker_at t markers k)) (marker_at t markers) (e - suc k) (length markers - suc k) (suc k) (omega arith)
        ∙ ap₂ ltb (sym (after_is t markers k (omega arith))) (let z : suc k + (e - suc k) ≡ e = omega arith in z)

    others_inside : any (other_half (marker_at t markers k)) (run (marker_at t markers) a (e - a)) ≡ ltb a (half_before (keys_at t markers) k) || ltb (half_after (keys_at t markers) k) e
    unfolding any
    others_inside =
        ap (any (other_half (marker_at t markers k))) around
        ∙ any_append (other_half (marker_at t markers k)) (run (marker_at t markers) a (k - a)) (marker_at t markers k ∷ run (marker_at t markers) (suc k) (e - suc k))
        ∙ ap₂ ◌||◌ others_before (rw (not_own (marker_at t markers k)) others_after)

    class_at : class_key (get_or (keys_at t markers) k 0) ≡ class (marker_at t markers k)
    class_at = ap class_key (key_at t markers k (omega arith)) ∙ class_key_lem (marker_at t markers k)

    stray_is : stray_at (keys_at t markers) a e k ≡ stray (run (marker_at t markers) a (e - a)) (marker_at t markers k)
    unfolding stray
    stray_is = ap₂ (λ (c : ℕ) (b : Bool). eqb c 3 || eqb c 4 || eqb c 2 && not b) class_at (sym others_inside)

and_group : (a b c d : Bool) → a && (b && (c && d)) ≡ a && (b && c) && d
and_group true true c d = refl
and_group true false c d = refl
and_group false b c d = refl

and_longer : (a b c : Bool) → a && b ≡ false → a && (b && c) ≡ false
and_longer true b c e = ap (λ (d : Bool). d && c) e
and_longer false b c e = refl

closed_start_lem : (x : Item) → is_pair_start (key x) ≡ false → closed_start (view_of x) ≡ false
unfolding view_of
closed_start_lem x f =
    and_longer (eqb (class x) 2) (eqb (half x) 1) (eqb (fields x).can_overlap 78)
    (sym (ap₂ (λ (c h : ℕ). eqb c 2 && eqb h 1) (class_key_lem x) (half_key_lem x)) ∙ f)

-- Rule 9 of a marker
module _ (t markers : List ℕ) (i : ℕ) (h : i < length markers) where
  encloses : Bool
  encloses = any_stray (enclosed (marker_at t markers i) (items (placed_at t (drop (suc i) markers))))

  bad_is : (before : Content) → bad_9 before (marker_at t markers i) (items (placed_at t (drop (suc i) markers))) ≡ closed_start (view_of (marker_at t markers i)) && encloses
  unfolding bad_9 view_of encloses
  bad_is before =
      and_group (eqb (class (marker_at t markers i)) 2) (eqb (half (marker_at t markers i)) 1) (eqb (fields (marker_at t markers i)).can_overlap 78) encloses

  behind : items (placed_at t (drop (suc i) markers)) ≡ run (marker_at t markers) (suc i) (length markers - suc i)
  behind = items_run t markers (length markers - suc i) (suc i) (omega arith)

  no_stray : length markers ≤ half_after (keys_at t markers) i → encloses ≡ false
  unfolding encloses any_stray
  no_stray f =
      rw (behind, enclosed_none (marker_at t markers i) (marker_at t markers) (length markers - suc i) (suc i) (omega (arith, f, after_is t markers i h)))

  stray_inside : (e r : ℕ) → e ≡ half_after (keys_at t markers) i → e < length markers → r ≡ next (stray_at (keys_at t markers) (i + 1) e) (i + 1) (e - (i + 1))
      → encloses ≡ ltb r e
  unfolding encloses any_stray
  stray_inside e r g l s =
      ap (λ (c : Content). any_stray (enclosed (marker_at t markers i) c)) behind
      ∙ ap any_stray (enclosed_some (marker_at t markers i) (marker_at t markers) (length markers - suc i) (suc i) e (sym (g ∙ after_is t markers i h)) (omega arith))
      ∙ any_next (stray (run (marker_at t markers) (suc i) (e - suc i))) (marker_at t markers) (e - suc i) (e - suc i) (suc i) (omega arith)
      ∙ ap₂ ltb
      (sym (next_same _ _ (suc i) (e - suc i) (λ k a b. stray_is t markers (suc i) e k a (omega (arith, b, a)) (omega arith)))
      ∙ ap (λ (k : ℕ). next (stray_at (keys_at t markers) k e) k (e - k)) (let z : suc i ≡ i + 1 = omega arith in z)
      ∙ sym s)
      (let z : suc i + (e - suc i) ≡ e = omega (arith, g, after_is t markers i h, next_low (λ k. other_half (marker_at t markers i) (marker_at t markers k)) (suc i) (length markers - suc i)) in z)

  -- the key tells that it is not the start of a pair
  pub not_start : (keys : List ℕ) → keys ≡ keys_at t markers → is_pair_start (get_or keys i 0) ≡ false → false ≡ closed_start (view_of (marker_at t markers i))
  not_start keys k f =
      sym
      (closed_start_lem (marker_at t markers i)
      (ap is_pair_start (sym (ap (λ (l : List ℕ). get_or l i 0) k ∙ key_at t markers i h)) ∙ f))

  module _ (before : Content) where
    abbrev test : Bool
    test = bad_9 before (marker_at t markers i) (items (placed_at t (drop (suc i) markers)))

    abbrev closed : Bool
    closed = closed_start (view_of (marker_at t markers i))

    pub not_closed : closed ≡ false → false ≡ test
    not_closed f = sym (bad_is before ∙ ap (λ (b : Bool). b && encloses) f)

    pub no_end : length markers ≤ half_after (keys_at t markers) i → false ≡ test
    no_end f = sym (bad_is before ∙ ap (λ (b : Bool). closed && b) (no_stray f) ∙ and_false closed)

    pub with_end : closed ≡ true → (keys : List ℕ) → keys ≡ keys_at t markers → (e : ℕ) → e ≡ half_after (keys_at t markers) i → e < length markers
        → ltb (next (stray_at keys (i + 1) e) (i + 1) (e - (i + 1))) e ≡ test
    with_end c keys k e g l =
        sym
        (bad_is before
        ∙ ap₂ ◌&&◌ c
        (stray_inside e (next (stray_at keys (i + 1) e) (i + 1) (e - (i + 1))) g l
        (ap (λ (l : List ℕ). next (stray_at l (i + 1) e) (i + 1) (e - (i + 1))) k)))

-- arrays that hold the nearest other halves: the end of a start, and the test of one marker
pub end_there : (t markers keys starts ends : List ℕ) → keys ≡ keys_at t markers → Halves keys starts ends → (i e : ℕ) → i < length markers → e ≡ get_or ends i 0
    → e ≡ half_after (keys_at t markers) i
end_there t markers keys starts ends k h i e l f =
    f ∙ h.1 i (omega (arith, keys_long t markers keys k)) ∙ ap (λ (some_keys : List ℕ). half_after some_keys i) k

pub stray_there : (keys starts ends : List ℕ) (first end j : ℕ) → Halves keys starts ends → j < length keys → (a b : ℕ) (m : Bool)
    → a ≡ get_or starts j 0 → b ≡ get_or ends j 0 → m ≡ stray_key (get_or keys j 0) first end a b → m ≡ stray_at keys first end j
stray_there keys starts ends first end j h l a b m e f g =
    g ∙ ap₂ (stray_key (get_or keys j 0) first end) (e ∙ h.0 j l) (f ∙ h.1 j l)
