-- Joined heads.
use Rattle.std.specs.Prelude.{ℕ, ◌≤◌, ◌≡◌, List, length}
use Rattle.table.specs.Meaning.{segment_meaning}
use Rattle.xliff.specs.Unit.{Head, segment, ignorable}
use Rattle.xliff.specs.Encode.{head_bytes}
use Rattle.xliff.specs.Join.{join_heads}
use Rattle.writer.specs.Pieces.{Written}
use Rattle.table.specs.declared.Segment.{Segment}

-- the segment r is x and y joined
abbrev pub JoinedSegment : Segment → Segment → Segment → Type 0
JoinedSegment x y r =
    segment (segment_meaning r) ≡ join_heads (segment (segment_meaning x)) (segment (segment_meaning y))

-- the segment r is x joined with an ignorable
abbrev pub JoinedWithIgnorable : Segment → Segment → Type 0
JoinedWithIgnorable x r =
    (i : ℕ) → segment (segment_meaning r) ≡ join_heads (segment (segment_meaning x)) (ignorable i)

-- two heads, and room for both in one; it is written
abbrev pub RoomHeads : List ℕ → List ℕ → List ℕ → Type 0
RoomHeads h i out =
    (a : Head) × (b : Head) × (head_bytes a ≡ h) × (head_bytes b ≡ i) × (length (head_bytes (join_heads a b)) ≤ length out)

abbrev pub WroteHeads : List ℕ → List ℕ → List ℕ → ℕ → List ℕ → Type 0
WroteHeads h i out n l =
    (a b : Head) → head_bytes a ≡ h → head_bytes b ≡ i → Written (head_bytes (join_heads a b)) out n l
