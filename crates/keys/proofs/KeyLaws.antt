-- The parts of a key, and the tests on keys, are the specification's of the item.
use Prim.Native.Nat.{ℕ, ◌+◌, ◌*◌, ◌/◌, ◌%◌, ◌≤◌}
use mathlib.Core.Path.{◌≡◌, refl, ap, ap₂, ◌∙◌}
use mathlib.Core.Bool.{Bool, true, false, ◌&&◌, cond}
use mathlib.Core.List.{List, [], ◌∷◌, map}
use native.Mathlib.Omega.{arith}
use lib.Dec.{eqb}
use borrow.Author.Tests.{eqb-true, eqb-false, eq-eqb, ne_eqb}
use Rattle.xliff.specs.Item.{Item, start, end, text, character, standalone, isolated, pair, annotation_start, annotation_end, class, half, is_form_P, id_of, alike, other_half}
use Rattle.places.specs.Markers.{item_at}
use Rattle.views.specs.Views.{view_of, items_of_markers}
use Rattle.keys.specs.Keys.{key, key_of, keys_at, id_key, class_key, half_key, form_key, alike_keys, is_other_key}

-- class, half and form are small
class_small : (x : Item) → class x ≤ 5
unfolding class
class_small (text c) = omega arith
class_small (character c) = omega arith
class_small (standalone f) = omega arith
class_small (isolated start f) = omega arith
class_small (isolated end f) = omega arith
class_small (pair h w f) = omega arith
class_small (annotation_start w i t) = omega arith
class_small (annotation_end w i) = omega arith

half_small : (x : Item) → half x ≤ 2
unfolding half
half_small (text c) = omega arith
half_small (character c) = omega arith
half_small (standalone f) = omega arith
half_small (isolated h f) = omega arith
half_small (pair start w f) = omega arith
half_small (pair end w f) = omega arith
half_small (annotation_start w i t) = omega arith
half_small (annotation_end w i) = omega arith

-- the parts of a number made of small parts
module _ (i c h p : ℕ) (cs : c ≤ 5) (hs : h ≤ 2) (ps : p ≤ 1) where
  whole : ℕ
  whole = i * 64 + (c * 8 + (h * 2 + p))

  id_part : whole / 64 ≡ i
  unfolding whole
  id_part = omega arith

  class_part : whole % 64 / 8 ≡ c
  unfolding whole
  class_part = omega arith

  half_part : whole % 8 / 2 ≡ h
  unfolding whole
  half_part = omega arith

  form_part : whole % 2 ≡ p
  unfolding whole
  form_part = omega arith

  name_part : whole / 8 ≡ i * 8 + c
  unfolding whole
  name_part = omega arith

bit : Bool → ℕ
bit b = cond b 1 0

bit_small : (b : Bool) → bit b ≤ 1
unfolding bit
bit_small true = omega arith
bit_small false = omega arith

bit_back : (b : Bool) → eqb (bit b) 1 ≡ b
unfolding bit
bit_back true = refl
bit_back false = refl

module _ (x : Item) where
  key_whole : key x ≡ whole (id_of x) (class x) (half x) (bit (is_form_P x)) (class_small x) (half_small x) (bit_small (is_form_P x))
  unfolding key whole bit
  key_whole = refl

  pub id_key_lem : id_key (key x) ≡ id_of x
  id_key_lem = ap (λ (k : ℕ). k / 64) key_whole ∙ id_part _ _ _ _ (class_small x) (half_small x) (bit_small (is_form_P x))

  pub class_key_lem : class_key (key x) ≡ class x
  class_key_lem = ap (λ (k : ℕ). k % 64 / 8) key_whole ∙ class_part _ _ _ _ (class_small x) (half_small x) (bit_small (is_form_P x))

  pub half_key_lem : half_key (key x) ≡ half x
  half_key_lem = ap (λ (k : ℕ). k % 8 / 2) key_whole ∙ half_part _ _ _ _ (class_small x) (half_small x) (bit_small (is_form_P x))

  pub form_key_lem : form_key (key x) ≡ is_form_P x
  form_key_lem =
      ap (λ (k : ℕ). eqb (k % 2) 1) key_whole
      ∙ ap (λ (k : ℕ). eqb k 1) (form_part _ _ _ _ (class_small x) (half_small x) (bit_small (is_form_P x))) ∙ bit_back (is_form_P x)

  name_key : key x / 8 ≡ id_of x * 8 + class x
  name_key = ap (λ (k : ℕ). k / 8) key_whole ∙ name_part _ _ _ _ (class_small x) (half_small x) (bit_small (is_form_P x))

-- two names are equal when class and id are
same_name : (i c j d : ℕ) → c ≤ 5 → d ≤ 5 → eqb (i * 8 + c) (j * 8 + d) ≡ eqb c d && eqb i j
same_name i c j d p q = by (eqb c d) refl
  where
    ids : c ≡ d → (b : Bool) → eqb i j ≡ b → eqb (i * 8 + c) (j * 8 + d) ≡ b
    ids e true f = eq-eqb (i * 8 + c) (j * 8 + d) (omega (arith, e, eqb-true i j f))
    ids e false f = ne_eqb (i * 8 + c) (j * 8 + d) (λ z. eqb-false i j f (omega (arith, z, e)))

    by : (b : Bool) → eqb c d ≡ b → eqb (i * 8 + c) (j * 8 + d) ≡ b && eqb i j
    by true e = ids (eqb-true c d e) (eqb i j) refl
    by false e = ne_eqb (i * 8 + c) (j * 8 + d) (λ z. eqb-false c d e (omega (arith, z, p, q)))

pub alike_key : (x y : Item) → alike_keys (key x) (key y) ≡ alike x y
unfolding alike
alike_key x y = ap₂ eqb (name_key x) (name_key y) ∙ same_name (id_of x) (class x) (id_of y) (class y) (class_small x) (class_small y)

pub other_key : (x y : Item) → is_other_key (key x) (key y) ≡ other_half x y
unfolding other_half
other_key x y = rw (alike_key x y, half_key_lem x, half_key_lem y) refl

-- the key of an item's view
pub key_view : (x : Item) → key_of (view_of x) ≡ key x
unfolding key view_of
key_view x = refl

-- the keys at some offsets, one by one
pub keys_each : (t markers : List ℕ) → map (λ (o : ℕ). key (item_at t o)) markers ≡ keys_at t markers
unfolding keys_at items_of_markers
keys_each t [] = refl
keys_each t (o ∷ markers) = ap (λ (l : List ℕ). key (item_at t o) ∷ l) (keys_each t markers)
