-- The nearest other half by the keys is that by the items; texts and characters are no halves.
use Prim.Native.Nat.{ℕ, zero, suc, ◌-◌, ◌<◌}
use mathlib.Core.Path.{◌≡◌, refl, sym, ap, ap₂, ◌∙◌}
use mathlib.Core.Bool.{Bool, true, false, cond, true≢false}
use mathlib.Core.List.{List, [], ◌∷◌}
use mathlib.Core.Option.{some}
use native.Mathlib.Omega.{arith}
use lib.ListN.{length, get_or, length-map}
use Rattle.xliff.specs.Bytes.{keep}
use Rattle.xliff.specs.Rules.{nearest}
use Rattle.xliff.specs.Item.{Item, Content, start, end, text, character, standalone, isolated, pair, annotation_start, annotation_end, class, half, other_half}
use Rattle.xliff.proofs.lists.Tests.{and_false}
use Rattle.places.specs.Markers.{item_at, is_marked, only_markers}
use Rattle.views.specs.declared.View.{View}
use Rattle.views.specs.Views.{view_of, items_of_markers}
use Rattle.keys.specs.Keys.{key, keys_at, is_other_key}
use Rattle.keys.proofs.KeyLaws.{other_key}
use Rattle.halves.specs.Nearest.{others, half_before, half_after, marker_at}
use Rattle.id_links.specs.Nearest.{next, previous}
use Rattle.id_links.proofs.Scans.{next_same, previous_same}

pub length_keys : (t markers : List ℕ) → length (keys_at t markers) ≡ length markers
unfolding keys_at items_of_markers
length_keys t markers = length-map (items_of_markers t markers) key ∙ length-map markers (item_at t)

pub key_at : (t markers : List ℕ) (k : ℕ) → k < length markers → get_or (keys_at t markers) k 0 ≡ key (marker_at t markers k)
unfolding keys_at items_of_markers
key_at t [] k h = absurd (omega arith)
key_at t (o ∷ markers) zero h = refl
key_at t (o ∷ markers) (suc k) h = key_at t markers k (omega arith)

-- an array that holds the keys: as long as the offsets, and what is read at an offset
module _ (t markers keys : List ℕ) (e : keys ≡ keys_at t markers) where
  pub keys_long : length keys ≡ length markers
  keys_long = ap length e ∙ length_keys t markers

  pub key_there : (i o : ℕ) → i < length markers → o ≡ get_or markers i 0 → get_or keys i 0 ≡ key (item_at t o)
  key_there i o h f = ap (λ (l : List ℕ). get_or l i 0) e ∙ key_at t markers i h ∙ ap (λ (k : ℕ). key (item_at t k)) (sym f)

pub view_there : (t markers : List ℕ) (i o : ℕ) (v : View) → o ≡ get_or markers i 0 → v ≡ view_of (item_at t o) → v ≡ view_of (marker_at t markers i)
view_there t markers i o v f e = e ∙ ap (λ (k : ℕ). view_of (item_at t k)) f

module _ (t markers : List ℕ) (i : ℕ) (h : i < length markers) where
  others_are : (k : ℕ) → k < length markers → others (keys_at t markers) i k ≡ other_half (marker_at t markers i) (marker_at t markers k)
  others_are k l = ap₂ is_other_key (key_at t markers i h) (key_at t markers k l) ∙ other_key (marker_at t markers i) (marker_at t markers k)

  pub before_is : half_before (keys_at t markers) i ≡ previous (λ k. other_half (marker_at t markers i) (marker_at t markers k)) i
  unfolding half_before
  before_is = previous_same _ _ i (λ k l. others_are k (omega arith))

  pub after_is : half_after (keys_at t markers) i ≡ next (λ k. other_half (marker_at t markers i) (marker_at t markers k)) (suc i) (length markers - suc i)
  unfolding half_after
  after_is =
      ap (λ (n : ℕ). next (others (keys_at t markers) i) (suc i) (n - suc i)) (length_keys t markers)
      ∙ next_same _ _ (suc i) (length markers - suc i) (λ k g l. others_are k (omega arith))

no_half : (y : Item) → is_marked y ≡ false → half y ≡ 0
unfolding is_marked class half
no_half (text c) e = refl
no_half (character c) e = refl
no_half (standalone f) e = refl
no_half (isolated start f) e = refl
no_half (isolated end f) e = refl
no_half (pair h w f) e = absurd (true≢false e)
no_half (annotation_start w i l) e = absurd (true≢false e)
no_half (annotation_end w i) e = absurd (true≢false e)

pub other_unmarked : (x y : Item) → is_marked y ≡ false → other_half x y ≡ false
unfolding other_half
other_unmarked x y e = simp (no_half y e, and_false)

-- no marker is its own other half
pub not_own : (x : Item) → other_half x x ≡ false
unfolding other_half half
not_own (text c) = simp and_false
not_own (character c) = simp and_false
not_own (standalone f) = simp and_false
not_own (isolated h f) = simp and_false
not_own (pair start w f) = simp and_false
not_own (pair end w f) = simp and_false
not_own (annotation_start w i l) = simp and_false
not_own (annotation_end w i) = simp and_false

-- what does not pass a test is passed over: among the markers the nearest is the same
pub nearest_marked : (p : Item → Bool) → ((x : Item) → is_marked x ≡ false → p x ≡ false) → (xs : Content) → nearest p xs ≡ nearest p (only_markers xs)
unfolding nearest only_markers keep
nearest_marked p h [] = refl
nearest_marked p h (x ∷ xs) = by (is_marked x) refl (nearest_marked p h xs)
  where
    by : (b : Bool) → is_marked x ≡ b → nearest p xs ≡ nearest p (keep is_marked xs)
        → cond (p x) (some x) (nearest p xs) ≡ nearest p (cond b (x ∷ keep is_marked xs) (keep is_marked xs))
    by true e ih = ap (cond (p x) (some x)) ih
    by false e ih = rw (h x e) ih
