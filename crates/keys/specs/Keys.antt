-- A marker as one number, its key: id, class, half and form, all that rule 7 asks of it. The key of text and characters
-- is 0.
use Rattle.std.specs.Prelude.{ℕ, ◌+◌, ◌*◌, ◌/◌, ◌%◌, Bool, ◌&&◌, ◌||◌, cond, List, map, eqb}
use Rattle.xliff.specs.Item.{Item, class, half, is_form_P, id_of}
use Rattle.views.specs.Views.{items_of_markers}
use Rattle.views.specs.declared.View.{View}

unfoldable pub key : Item → ℕ
key x = id_of x * 64 + (class x * 8 + (half x * 2 + cond (is_form_P x) 1 0))

-- the same of a view
abbrev pub key_of : View → ℕ
key_of v = v.id * 64 + (v.class * 8 + (v.half * 2 + cond v.pform 1 0))

unfoldable pub keys_at : List ℕ → List ℕ → List ℕ
keys_at t markers = map key (items_of_markers t markers)

-- the parts of a key
abbrev pub id_key : ℕ → ℕ
id_key k = k / 64

abbrev pub class_key : ℕ → ℕ
class_key k = k % 64 / 8

abbrev pub half_key : ℕ → ℕ
half_key k = k % 8 / 2

abbrev pub form_key : ℕ → Bool
form_key k = eqb (k % 2) 1

-- the tests of two items, on their keys: class and id
abbrev pub alike_keys : ℕ → ℕ → Bool
alike_keys x y = eqb (x / 8) (y / 8)

abbrev pub is_other_key : ℕ → ℕ → Bool
is_other_key x y = eqb (x / 8) (y / 8) && (eqb (x % 8 / 2) 1 && eqb (y % 8 / 2) 2 || eqb (x % 8 / 2) 2 && eqb (y % 8 / 2) 1)
