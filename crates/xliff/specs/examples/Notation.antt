-- The records and requests of document 01 in its notation, for the examples: `SG 1 '-' 'I'` is the document's `SG` 1 -
-- I.
use Rattle.std.specs.Prelude.{ℕ, List, [], ◌∷◌, ◌++◌, length}
use Rattle.xliff.specs.Bytes.{'-', 'J', 'N', 'P', 'R', 'S', 'T', 'W', two}
use Rattle.xliff.specs.Item.{Fields, start, end, form_P, form_S, standalone, isolated, pair, annotation_start, annotation_end, character}
use Rattle.xliff.specs.Unit.{segment, ignorable}
use Rattle.xliff.specs.Encode.{Record, opening, closing, part_head, target_head, text_run, inline, spell}

abbrev pub UN : ℕ → Record
UN c = opening (record { can_resegment = c })

abbrev pub UE : Record
UE = closing

abbrev pub SG : ℕ → ℕ → ℕ → Record
SG i c s = part_head (segment (record { id = i; can_resegment = c; state = s }))

abbrev pub IG : ℕ → Record
IG i = part_head (ignorable i)

abbrev pub TG : ℕ → Record
TG q = target_head q

-- the code points of the text
abbrev pub TX : List ℕ → Record
TX cs = text_run cs

abbrev pub CP : ℕ → Record
CP c = inline (character c)

-- the fields of a code: id, then the letters canCopy, canDelete, canOverlap, canReorder
abbrev pub letters : ℕ → ℕ → ℕ → ℕ → ℕ → Fields
letters i c d o r = record { id = i; copy_of = 0; data_ref = 0; can_copy = c; can_delete = d; can_overlap = o; can_reorder = r }

-- canOverlap is always - in PH
abbrev pub PH : Fields → Record
PH f = inline (standalone (record { id = f.id; copy_of = f.copy_of; data_ref = f.data_ref; can_copy = f.can_copy; can_delete = f.can_delete; can_overlap = '-'; can_reorder = f.can_reorder }))

abbrev pub PO : Fields → Record
PO f = inline (pair start form_P f)

abbrev pub PC : Fields → Record
PC f = inline (pair end form_P f)

abbrev pub SC : Fields → Record
SC f = inline (pair start form_S f)

abbrev pub EC : Fields → Record
EC f = inline (pair end form_S f)

abbrev pub IS : Fields → Record
IS f = inline (isolated start f)

abbrev pub IE : Fields → Record
IE f = inline (isolated end f)

-- translate is - in the examples
abbrev pub MO : ℕ → Record
MO i = inline (annotation_start form_P i '-')

abbrev pub SM : ℕ → Record
SM i = inline (annotation_start form_S i '-')

abbrev pub MC : ℕ → Record
MC i = inline (annotation_end form_P i)

abbrev pub EM : ℕ → Record
EM i = inline (annotation_end form_S i)

-- Requests of a job: "SP part, cut, cut, id; JN part; ST part, state, length, content; RT part; RW side, id, form."
abbrev pub SP : ℕ → ℕ → ℕ → ℕ → List ℕ
SP n source_cut target_cut new = 'S' ∷ 'P' ∷ (two n ++ two source_cut ++ two target_cut ++ two new)

abbrev pub JN : ℕ → List ℕ
JN n = 'J' ∷ 'N' ∷ two n

abbrev pub ST : ℕ → ℕ → List Record → List ℕ
ST n st rs = 'S' ∷ 'T' ∷ (two n ++ (st ∷ (two (length (spell rs)) ++ spell rs)))

abbrev pub RT : ℕ → List ℕ
RT n = 'R' ∷ 'T' ∷ two n

abbrev pub RW : ℕ → ℕ → ℕ → List ℕ
RW side i w = 'R' ∷ 'W' ∷ side ∷ (two i ++ (w ∷ []))
