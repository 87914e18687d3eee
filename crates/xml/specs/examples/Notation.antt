-- The notation of the examples: bytes of a string, fields and heads by their values in the table's sequence.
use Rattle.std.specs.Prelude.{ℕ, List}
use Prim.Native.String.{String}
use Rattle.xliff.specs.Answer.{Outcome, refuse}
use Rattle.xliff.specs.Text.{utf8s}
use Rattle.xliff.specs.Item.{Fields}
use Rattle.xliff.specs.Unit.{segment}
use Rattle.xliff.specs.Encode.{Record, opening, part_head}
use Rattle.xml.specs.Words.{codes}
use Rattle.xml.specs.Xml.{Xml·all}

unfoldable pub bytes : String → List ℕ
bytes s = utf8s (codes s)

-- id, copyOf, dataRef, then the letters canCopy, canDelete, canOverlap, canReorder
unfoldable pub coded : ℕ → ℕ → ℕ → ℕ → ℕ → ℕ → ℕ → Fields
coded i copy ref c d o r =
    record { id = i; copy_of = copy; data_ref = ref; can_copy = c; can_delete = d; can_overlap = o; can_reorder = r }

-- UN and SG
unfoldable pub unit_with : ℕ → Record
unit_with c = opening (record { can_resegment = c })

unfoldable pub segment_with : ℕ → ℕ → ℕ → Record
segment_with i c s = part_head (segment (record { id = i; can_resegment = c; state = s }))

unfoldable pub refused_with : ℕ → ℕ → Outcome
refused_with n at = refuse (record { number = n; place = at })

unfoldable pub Notation·all : Unit {0}
unfolding Xml·all bytes coded unit_with segment_with refused_with
Notation·all = tt
