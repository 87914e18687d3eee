-- The contents of a table as one list of items, where a text stands for each head: a bar between two contents.
use Rattle.std.specs.Prelude.{ℕ, Bool, true, cond, List, [], ◌∷◌}
use Rattle.xliff.specs.Item.{Item, Content, text}
use Rattle.xliff.specs.Encode.{Record}
use Rattle.xliff.specs.Sequences.{Placed}
use Rattle.xliff.specs.Rules.{lone_P}
use Rattle.places.specs.Found.{found, marker, no_marker}
use Rattle.places.specs.Markers.{is_marked}

-- the markers up to the next bar: what is left of a content
unfoldable pub run_items : Content → Content
run_items [] = []
run_items (x ∷ xs) = cond (is_marked x) (x ∷ run_items xs) []

-- a half of pc or mrk without partner in its content
unfoldable pub lone_bar : Content → Item → Content → Bool
lone_bar before x after = lone_P (run_items before) x (run_items after)

abbrev pub bar : ℕ → List Placed
bar at = record { item = text 0; at = at } ∷ []

-- the heads, as bars, and the markers of all contents
abbrev pub bars_found : Bool → ℕ → List Record → List Placed
bars_found inside at rs = found true (λ q. true) (λ h at. bar at) (λ q at. bar at) marker no_marker inside at rs
