-- What is read of the records that open a unit and head its parts and targets, and written of them.
use Rattle.std.specs.Prelude.{ℕ, ◌≤◌, ◌≡◌, Bool, true, false, Option, Some, None, List, ◌++◌, length}
use Rattle.table.specs.Meaning.{segment_meaning}
use Rattle.xliff.specs.Unit as unit
use Rattle.xliff.specs.Unit.{Opening, Head, segment, ignorable, with_id, with_state}
use Rattle.xliff.specs.Encode.{opening, target_head, record_bytes, head_bytes}
use Rattle.writer.specs.Pieces.{Written}
use Rattle.table.specs.declared.Segment.{Segment}

-- the head is a segment's
abbrev pub is_segment : Head → Bool
is_segment (segment f) = true
is_segment (ignorable i) = false

-- the bytes begin with a unit's opening, with a target's head
abbrev pub SomeUnit : List ℕ → Type 0
SomeUnit t = (o : Opening) × (s : List ℕ) × (t ≡ record_bytes (opening o) ++ s)

abbrev pub SomeTarget : List ℕ → Type 0
SomeTarget t = (q : ℕ) × (s : List ℕ) × (t ≡ record_bytes (target_head q) ++ s)

-- they are those of a head, of a segment's head
abbrev pub SomeHead : List ℕ → Type 0
SomeHead bytes = (h : Head) × (head_bytes h ≡ bytes)

abbrev pub SomeSegment : List ℕ → Type 0
SomeSegment bytes = (f : unit.Segment) × (head_bytes (segment f) ≡ bytes)

-- what is read of bytes, whatever unit, head or target they are of
abbrev pub ResegmentIs : List ℕ → ℕ → Type 0
ResegmentIs t r = (o : Opening) (s : List ℕ) → t ≡ record_bytes (opening o) ++ s → r ≡ o.can_resegment

abbrev pub SegmentIs : List ℕ → Bool → Type 0
SegmentIs bytes r = (h : Head) → head_bytes h ≡ bytes → r ≡ is_segment h

abbrev pub FieldsAre : List ℕ → Segment → Type 0
FieldsAre bytes r = (f : unit.Segment) → head_bytes (segment f) ≡ bytes → segment_meaning r ≡ f

-- the fields, where a head is a segment's
abbrev pub SegmentOf : List ℕ → Option Segment → Type 0
SegmentOf bytes (Some r) = SegmentIs bytes true × FieldsAre bytes r
SegmentOf bytes None = SegmentIs bytes false

abbrev pub OrderIs : List ℕ → ℕ → Type 0
OrderIs t r = (q : ℕ) (s : List ℕ) → t ≡ record_bytes (target_head q) ++ s → r ≡ q

-- a head, and room for it; it is written with another state, with another id
abbrev pub HeadRoom : List ℕ → List ℕ → Type 0
HeadRoom bytes out = SomeHead bytes × (length bytes ≤ length out)

abbrev pub WroteState : ℕ → List ℕ → List ℕ → ℕ → List ℕ → Type 0
WroteState st bytes out n last = (h : Head) → head_bytes h ≡ bytes → Written (head_bytes (with_state st h)) out n last

abbrev pub WroteId : ℕ → List ℕ → List ℕ → ℕ → List ℕ → Type 0
WroteId id bytes out n last = (h : Head) → head_bytes h ≡ bytes → Written (head_bytes (with_id id h)) out n last
