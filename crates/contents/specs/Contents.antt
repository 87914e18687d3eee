-- The contents of a table, each by itself: the offsets of heads and markers in table order, and their keys. A head (SG,
-- IG, TG) is a bar between two contents.
use Rattle.std.specs.Prelude.{ℕ, ◌≡◌, refl, Bool, true, false, cond, List, [], ◌∷◌, map, drop, eqb}
use Rattle.xliff.specs.Item.{text, class}
use Rattle.xliff.specs.Encode.{Record, opening, closing, part_head, target_head, text_run, inline, ill_text, broken, unit_records}
use Rattle.xliff.specs.Parse.{read, unit}
use Rattle.xliff.specs.Sequences.{Placed}
use Rattle.places.specs.Found.{found, marker}
use Rattle.keys.specs.Keys.{key, class_key}

-- the offset of a marker, where the walk stands in a content that is asked for
unfoldable pub marker_offset : Bool → Placed → List ℕ
marker_offset inside p = map (λ (q : Placed). q.at) (marker inside p)

pub no_offset : (inside : Bool) (c at : ℕ) → marker_offset inside (record { item = text c; at = at }) ≡ []
unfolding marker_offset marker class
no_offset true c at = refl
no_offset false c at = refl

-- the offsets of the heads, and of the markers of source contents and, where `targets`, of target contents too
abbrev pub barred_found : Bool → Bool → ℕ → List Record → List ℕ
barred_found targets inside at rs = found true (λ q. targets) (λ h at. at ∷ []) (λ q at. at ∷ []) marker_offset no_offset inside at rs

unfoldable pub barred : Bool → List ℕ → List ℕ
barred targets t = barred_found targets false 0 (unit_records (unit t))

-- the key of a marker; 1 for TG and 0 for the other heads. A key below 8 is a bar
unfoldable pub bar_key : Record → ℕ
bar_key (opening c) = 0
bar_key closing = 0
bar_key (part_head h) = 0
bar_key (target_head q) = 1
bar_key (text_run cs) = 0
bar_key (inline x) = key x
bar_key ill_text = 0
bar_key (broken b) = 0

unfoldable pub bar_keys : List ℕ → List ℕ → List ℕ
bar_keys t markers = map (λ (o : ℕ). bar_key (read (drop o t))) markers

abbrev pub is_bar : ℕ → Bool
is_bar k = eqb (class_key k) 0

-- the keys up to the next bar: what is left of a content
unfoldable pub run : List ℕ → List ℕ
run [] = []
run (k ∷ keys) = cond (is_bar k) [] (k ∷ run keys)

-- the next bar is a TG: the part has a target
unfoldable pub targeted : List ℕ → Bool
targeted [] = false
targeted (k ∷ keys) = cond (is_bar k) (eqb k 1) (targeted keys)
