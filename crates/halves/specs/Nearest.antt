-- The nearest other half of a marker, before and after it in its sequence, by the keys of the markers.
use Rattle.std.specs.Prelude.{ℕ, zero, suc, ◌+◌, ◌-◌, ◌<◌, ◌≡◌, Bool, List, [], ◌∷◌, Option, None, Some, length, get_or}
use Rattle.xliff.specs.Item.{Item}
use Rattle.places.specs.Markers.{item_at}
use Rattle.keys.specs.Keys.{is_other_key}
use Rattle.id_links.specs.Nearest.{next, previous}

-- of markers with these keys: whether k's is the other half of i's
abbrev pub others : List ℕ → ℕ → ℕ → Bool
others keys i k = is_other_key (get_or keys i 0) (get_or keys k 0)

-- the index of the nearest other half after i's; the number of markers where there is none
unfoldable pub half_after : List ℕ → ℕ → ℕ
half_after keys i = next (others keys i) (suc i) (length keys - suc i)

-- the index of the nearest other half before i's, plus one; 0 where there is none
unfoldable pub half_before : List ℕ → ℕ → ℕ
half_before keys i = previous (others keys i) i

-- the same as options: the index alone, where there is one
abbrev pub ToldBefore : List ℕ → ℕ → Option ℕ → Type 0
ToldBefore keys i None = half_before keys i ≡ 0
ToldBefore keys i (Some j) = (half_before keys i ≡ j + 1) × (j < i)

abbrev pub ToldAfter : List ℕ → ℕ → Option ℕ → Type 0
ToldAfter keys i None = half_after keys i ≡ length keys
ToldAfter keys i (Some j) = (half_after keys i ≡ j) × (i < j) × (j < length keys)

-- the marker of an index
abbrev pub marker_at : List ℕ → List ℕ → ℕ → Item
marker_at t markers k = item_at t (get_or markers k 0)

-- the n elements from an index on, and those before an index, the nearest first
unfoldable pub run : {A : Type 0} → (ℕ → A) → ℕ → ℕ → List A
run x a zero = []
run x a (suc n) = x a ∷ run x (suc a) n

unfoldable pub earlier : {A : Type 0} → (ℕ → A) → ℕ → List A
earlier x zero = []
earlier x (suc i) = x i ∷ earlier x i
