-- The key of a marker from its bytes: the code's cases.
use Rattle.std.specs.Prelude.{ℕ, ◌+◌, ◌*◌, Bool, not, ◌&&◌, cond, List, [], ◌∷◌, length, get_or, eqb, leb, ltb}
use Rattle.xliff.specs.Bytes.{two_at}
use Rattle.xliff.specs.Parse.{Mark, UN, UE, SG, IG, TG, TX, CP, PH, PO, PC, SC, EC, IS, IE, MO, SM, MC, EM, unknown, mark_at, code_size, annotation_start_size, annotation_end_size}
use Rattle.marks.specs.Marks.{one_of}
use Rattle.table.specs.Letters.{yes_no_none, fields_ok}
use Rattle.table.specs.Records.{fields_of}

-- 8 times the class, twice the half, 1 for PO PC MO MC; 0 for all but markers
unfoldable pub low_of : Mark → ℕ
low_of UN = 0
low_of UE = 0
low_of SG = 0
low_of IG = 0
low_of TG = 0
low_of TX = 0
low_of CP = 0
low_of PH = 8
low_of PO = 19
low_of PC = 21
low_of SC = 18
low_of EC = 20
low_of IS = 24
low_of IE = 32
low_of MO = 43
low_of SM = 42
low_of MC = 45
low_of EM = 44
low_of unknown = 0

abbrev pub annotation_low : Mark → ℕ
annotation_low m = cond (one_of (MO ∷ MC ∷ SM ∷ EM ∷ []) m) (low_of m) 0

-- whether the fields are good
abbrev pub code_good : List ℕ → Bool → Bool
code_good s alone = leb code_size (length s) && fields_ok alone (fields_of s)

abbrev pub start_good : List ℕ → Bool
start_good s = leb annotation_start_size (length s) && (not (eqb (two_at s 2) 0) && yes_no_none (get_or s 4 0))

abbrev pub end_good : List ℕ → Bool
end_good s = not (eqb (two_at s 2) 0)

unfoldable pub marker_good : List ℕ → ℕ → Bool
marker_good s low = cond (ltb low 40) (code_good s (eqb low 8)) (cond (ltb low 44) (start_good s) (end_good s))

-- by what the mark says
unfoldable pub key_by : List ℕ → ℕ → ℕ
key_by s low = cond (eqb low 0) 0 (cond (marker_good s low) (two_at s 2 * 64 + low) 0)

unfoldable pub marker_key : List ℕ → ℕ
marker_key s = cond (leb annotation_end_size (length s)) (key_by s (low_of (mark_at s))) 0
