-- What is a marker, and where.
use Rattle.std.specs.Prelude.{ℕ, ◌+◌, ◌≡◌, Bool, false, not, ◌&&◌, ◌||◌, cond, List, [], ◌∷◌, ◌++◌, map, length, take, eqb}
use Rattle.xliff.specs.Item.{class}
use Rattle.xliff.specs.Encode.{unit_records}
use Rattle.xliff.specs.Parse.{unit}
use Rattle.xliff.specs.Sequences.{Placed}
use Rattle.places.specs.Found.{found_at, marker, no_marker, marks_found}
use Rattle.table.specs.Meaning.{item, meaning}
use Rattle.table.specs.declared.Item.{Item}
use Rattle.table.specs.declared.Record.{Record}
use Rattle.table.specs.declared.Record.TheVariants.{Unit as UnitStart, UnitEnd, Segment, Ignorable, Target, Text, Inline}
use Rattle.table.specs.declared.Read.{Read}
use Rattle.table.specs.declared.Read.TheVariants.{Good, Ill, Broken}

abbrev pub ItemMarked : Item → Bool → Type 0
ItemMarked i b = b ≡ not (eqb (class (item i)) 0)

abbrev pub places : List Placed → List ℕ
places ps = map (λ p. p.at) ps

-- the offset of what was read is a marker's
abbrev pub ReadMarked : Bool → Read → Bool → Type 0
ReadMarked inside r b = (source : Bool) (q : ℕ) (cs : List ℕ) (at : ℕ)
    → places (found_at source (λ k. not source && eqb q k) (λ h at. []) (λ k at. []) marker no_marker inside at (meaning cs r)) ≡ cond b (at ∷ []) []

abbrev pub inside_in : Bool → ℕ → Bool → Record → Bool
inside_in source q inside (UnitStart c) = inside
inside_in source q inside UnitEnd = inside
inside_in source q inside (Segment f) = source
inside_in source q inside (Ignorable i) = source
inside_in source q inside (Target k) = not source && eqb q k
inside_in source q inside Text = inside
inside_in source q inside (Inline i) = inside

abbrev pub inside_of : Bool → ℕ → Bool → Read → Bool
inside_of source q inside (Good x w) = inside_in source q inside x
inside_of source q inside Ill = inside
inside_of source q inside (Broken b) = inside

-- what follows a head (0 for SG and IG, 1 for TG, 2 for all else) is of a source content
abbrev pub inside_source : ℕ → Bool → Bool
inside_source head inside = eqb head 0 || eqb head 2 && inside

-- the offsets of the markers of the source sequence, or of the targets of order q
unfoldable pub offsets : Bool → ℕ → List ℕ → List ℕ
offsets source q t = places (marks_found source q false 0 (unit_records (unit t)))

-- behind the first m of an array stands a piece, r counts both, and the array is as long as it was
abbrev pub Appended : List ℕ → List ℕ → ℕ → List ℕ → ℕ → Type 0
Appended piece out m last r = (take r last ≡ take m out ++ piece) × (r ≡ length piece + m) × (length last ≡ length out)
