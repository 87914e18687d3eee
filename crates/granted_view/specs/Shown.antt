-- Stepping stones: the view of a table, piece by piece as it is written.
use Rattle.std.specs.Prelude.{ℕ, ◌≡◌, Bool, List}
use Rattle.xliff.specs.Bytes.{'I'}
use Rattle.xliff.specs.Unit.{Head, Part, with_state}
use Rattle.xliff.specs.Encode.{head_bytes, part_records, spell}
use Rattle.part_at.specs.declared.PartPlace.{PartPlace}
use Rattle.part_at.specs.Stands.{PartStands}
use Rattle.draft.specs.declared.Draft.{Draft}
use Rattle.draft.specs.Drafts.{Wrote}
use Rattle.grants.specs.View.{shown}

-- the head of these bytes is written, its state shown as I
abbrev pub PutHead : List ℕ → Draft → Draft → Type 0
PutHead bytes draft draft' =
    (h : Head) → head_bytes h ≡ bytes → Wrote (head_bytes (with_state 'I' h)) draft draft'

-- the part at the place is written as the view shows it
abbrev pub PutPart : Bool → List ℕ → PartPlace → Draft → Draft → Type 0
PutPart inside t place draft draft' =
    (b : List Part) (p : Part) (a : List Part) → PartStands t b p a place
    → Wrote (spell (part_records (shown inside p))) draft draft'
