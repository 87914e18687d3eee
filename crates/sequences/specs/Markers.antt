-- What rules 7 to 10 are given: the offsets of the markers of the two sequences, and their keys.
use Rattle.std.specs.Prelude.{ℕ, ◌≤◌, ◌≡◌, true, List, length}
use Rattle.xliff.specs.Parse.{unit, most_bytes, most_records}
use Rattle.places.specs.Passes.{Passes}
use Rattle.places.specs.Markers.{target_offsets}
use Rattle.keys.specs.Keys.{keys_at}
use Rattle.keys.specs.declared.Sequence.{Sequence}
use Rattle.sequences.specs.Marks.{offsets}

abbrev pub Markers : List ℕ → List ℕ → List ℕ → List ℕ → List ℕ → Type 0
Markers t source_markers source_keys target_markers target_keys =
    Passes t × (source_markers ≡ offsets true 0 t) × (source_keys ≡ keys_at t source_markers)
    × (target_markers ≡ target_offsets t 0 (length (unit t).parts)) × (target_keys ≡ keys_at t target_markers)
    × (length source_markers ≤ most_records) × (length target_markers ≤ most_records) × (length t ≤ most_bytes)

-- the same, of the two sequences
abbrev pub Sequences : List ℕ → Sequence → Sequence → Type 0
Sequences t source target = Markers t source.markers.now source.keys.now target.markers.now target.keys.now
