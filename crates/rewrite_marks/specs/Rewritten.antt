-- Marks rewritten in the records of a table: a walk that knows whether it stands in a content of the side.
use Rattle.std.specs.Prelude.{ℕ, Bool, false, not, ◌&&◌, cond, List, [], ◌∷◌, eqb}
use Rattle.xliff.specs.Bytes.{'C', 'E', 'M', 'O', 'P', 'S'}
use Rattle.xliff.specs.Item as item
use Rattle.xliff.specs.Item.{Form, form_P, form_S, class, half}
use Rattle.xliff.specs.Encode as encode
use Rattle.xliff.specs.Good.{on_record}
use Rattle.xliff.specs.Encode.{opening, closing, part_head, target_head, text_run, inline, ill_text, broken, unit_records, spell}
use Rattle.xliff.specs.Parse.{unit}
use Rattle.xliff.specs.Rules.{half_of_id}
use Rattle.xliff.specs.Rewrite.{rewrite_item}
use Rattle.writer.specs.Pieces.{overlay}

-- whether what follows a record is of a content of the side
unfoldable pub inside_after : Bool → Bool → encode.Record → Bool
inside_after source inside (opening c) = inside
inside_after source inside closing = inside
inside_after source inside (part_head h) = source
inside_after source inside (target_head q) = not source
inside_after source inside (text_run cs) = inside
inside_after source inside (inline x) = inside
inside_after source inside ill_text = inside
inside_after source inside (broken b) = inside

-- the items of records changed (`on_record`), where the walk stands in a content of the side
abbrev pub if_inside : Bool → (item.Item → item.Item) → item.Item → item.Item
if_inside inside f x = cond inside (f x) x

unfoldable pub rewritten : (item.Item → item.Item) → Bool → Bool → List encode.Record → List encode.Record
rewritten f source inside [] = []
rewritten f source inside (r ∷ rs) = on_record (if_inside inside f) r ∷ rewritten f source (inside_after source inside r) rs

abbrev pub form_by : Bool → Form
form_by p = cond p form_P form_S

-- the bytes of a table, the halves of the id on the side in form P or S
unfoldable pub rewritten_bytes : Bool → ℕ → Bool → List ℕ → List ℕ
rewritten_bytes source i p t = spell (rewritten (rewrite_item i (form_by p)) source false (unit_records (unit t)))

-- the same by the head of a glance: 0 for SG and IG, 1 for TG; FormLaws has that it is inside-after
abbrev pub inside_of : Bool → Bool → ℕ → Bool
inside_of source inside head = cond (eqb head 0) source (cond (eqb head 1) (not source) inside)

-- the mark of a start, of an end: of a pair or of an annotation, in form P or in form S
abbrev pub start_mark : Bool → Bool → List ℕ
start_mark pair p = cond pair (cond p ('P' ∷ 'O' ∷ []) ('S' ∷ 'C' ∷ [])) (cond p ('M' ∷ 'O' ∷ []) ('S' ∷ 'M' ∷ []))

abbrev pub end_mark : Bool → Bool → List ℕ
end_mark pair p = cond pair (cond p ('P' ∷ 'C' ∷ []) ('E' ∷ 'C' ∷ [])) (cond p ('M' ∷ 'C' ∷ []) ('E' ∷ 'M' ∷ []))

abbrev pub half_mark : ℕ → ℕ → Bool → List ℕ
half_mark class half p = cond (eqb half 1) (start_mark (eqb class 2) p) (end_mark (eqb class 2) p)

-- the output with the other mark at an offset, if the item there is a half of the id on the side
unfoldable pub formed : Bool → ℕ → Bool → item.Item → List ℕ → ℕ → List ℕ
formed inside i p x out at = cond (inside && half_of_id i x) (overlay out at (half_mark (class x) (half x) p)) out
