-- The marks of start and end for those of pc and mrk. Stepping stones: `cut_one` (proofs/CutLaws) ties them to the
-- specification's `cut_item`.
use Rattle.std.specs.Prelude.{ℕ, ◌≡◌, Bool, cond, List, [], ◌∷◌, ◌++◌, map, length}
use Rattle.xliff.specs.Bytes.{'C', 'E', 'M', 'S', 'T', 'X', two}
use Rattle.xliff.specs.Item.{Content}
use Rattle.xliff.specs.Encode.{Record, opening, closing, part_head, target_head, text_run, inline, ill_text, broken, record_bytes, spell}
use Rattle.xliff.specs.Parse.{Mark, UN, UE, SG, IG, TG, TX, CP, PH, PO, PC, SC, EC, IS, IE, MO, SM, MC, EM, unknown, mark_at}
use Rattle.xliff.specs.Split.{cut_item}
use Rattle.walk.specs.Kept.{Of, items, Inline}
use Rattle.writer.specs.Pieces.{lead}

-- SC for PO, EC for PC, SM for MO, EM for MC; no mark for all others
abbrev pub turned_mark : Mark → List ℕ
turned_mark UN = []
turned_mark UE = []
turned_mark SG = []
turned_mark IG = []
turned_mark TG = []
turned_mark TX = []
turned_mark CP = []
turned_mark PH = []
turned_mark PO = 'S' ∷ 'C' ∷ []
turned_mark PC = 'E' ∷ 'C' ∷ []
turned_mark SC = []
turned_mark EC = []
turned_mark IS = []
turned_mark IE = []
turned_mark MO = 'S' ∷ 'M' ∷ []
turned_mark SM = []
turned_mark MC = 'E' ∷ 'M' ∷ []
turned_mark EM = []
turned_mark unknown = []

-- the bytes of a record, with the turned mark over its own if asked
unfoldable pub turn_if : Bool → List ℕ → List ℕ
turn_if b t = cond b (lead (turned_mark (mark_at t)) t) t

-- a record of a half, with what stands beyond the cut
abbrev pub cut_record : Content → Record → Record
cut_record ys (opening c) = opening c
cut_record ys closing = closing
cut_record ys (part_head h) = part_head h
cut_record ys (target_head q) = target_head q
cut_record ys (text_run cs) = text_run cs
cut_record ys (inline x) = inline (cut_item ys x)
cut_record ys ill_text = ill_text
cut_record ys (broken b) = broken b

abbrev pub cut_records : Content → List Record → List Record
cut_records ys rs = map (cut_record ys) rs

-- the output o has become l: one record, cut; all records of a, cut
abbrev pub CutOne : List ℕ → List ℕ → List ℕ → List ℕ → Type 0
CutOne t beyond o l = (r : Record) (qs : List Record) → Inline r → t ≡ record_bytes r → Of beyond qs
    → l ≡ lead (record_bytes (cut_record (items qs) r)) o

abbrev pub CutAll : List ℕ → List ℕ → List ℕ → List ℕ → Type 0
CutAll a beyond o l = (rs qs : List Record) → Of a rs → Of beyond qs → l ≡ lead (spell (cut_records (items qs) rs)) o

-- TX
abbrev pub text_piece : List ℕ → List ℕ
text_piece t = 'T' ∷ 'X' ∷ (two (length t) ++ t)
