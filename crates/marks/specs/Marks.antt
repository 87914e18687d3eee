-- The marks by the code's cases. Stepping stones: `mark_found` and `mark_missed` (proofs/MarkLaws) tie them
-- to the specification's `mark_at`.
use Rattle.std.specs.Prelude.{ℕ, Bool, false, ◌&&◌, ◌||◌, cond, List, [], ◌∷◌, get_or, eqb}
use Rattle.xliff.specs.Parse as parse
use Rattle.marks.specs.declared.Mark.{Mark}
use Rattle.marks.specs.declared.Mark.TheVariants.{UN, UE, SG, IG, TG, TX, CP, PH, PO, PC, SC, EC, IS, IE, MO, SM, MC, EM, Unknown}

-- the bytes t begin with the mark m
abbrev pub marked : List ℕ → List ℕ → Bool
marked t m = eqb (get_or t 0 0) (get_or m 0 0) && eqb (get_or t 1 0) (get_or m 1 0)

-- a number for each mark, to compare marks by
abbrev pub mark_number : parse.Mark → ℕ
mark_number parse.UN = 0
mark_number parse.UE = 1
mark_number parse.SG = 2
mark_number parse.IG = 3
mark_number parse.TG = 4
mark_number parse.TX = 5
mark_number parse.CP = 6
mark_number parse.PH = 7
mark_number parse.PO = 8
mark_number parse.PC = 9
mark_number parse.SC = 10
mark_number parse.EC = 11
mark_number parse.IS = 12
mark_number parse.IE = 13
mark_number parse.MO = 14
mark_number parse.SM = 15
mark_number parse.MC = 16
mark_number parse.EM = 17
mark_number parse.unknown = 18

abbrev pub same_mark : parse.Mark → parse.Mark → Bool
same_mark m n = eqb (mark_number m) (mark_number n)

abbrev pub one_of : List parse.Mark → parse.Mark → Bool
one_of [] m = false
one_of (n ∷ ns) m = same_mark n m || one_of ns m

-- Marks are tested in three groups, by how often they come: TX PO PC PH, then SG TG MO MC, then the rest. What the last
-- group, and what the last two find: the mark where it is one of theirs, else none
abbrev only : List parse.Mark → parse.Mark → parse.Mark
only ms m = cond (one_of ms m) m parse.unknown

abbrev rest_marks : List parse.Mark
rest_marks = parse.SC ∷ parse.EC ∷ parse.SM ∷ parse.EM ∷ parse.IG ∷ parse.CP ∷ parse.IS ∷ parse.IE ∷ parse.UN ∷ parse.UE ∷ []

abbrev pub only_rest : parse.Mark → parse.Mark
only_rest m = only rest_marks m

abbrev pub only_later : parse.Mark → parse.Mark
only_later m = only (parse.SG ∷ parse.TG ∷ parse.MO ∷ parse.MC ∷ rest_marks) m

-- the mark of document 01 that a case is
abbrev pub meaning : Mark → parse.Mark
meaning UN = parse.UN
meaning UE = parse.UE
meaning SG = parse.SG
meaning IG = parse.IG
meaning TG = parse.TG
meaning TX = parse.TX
meaning CP = parse.CP
meaning PH = parse.PH
meaning PO = parse.PO
meaning PC = parse.PC
meaning SC = parse.SC
meaning EC = parse.EC
meaning IS = parse.IS
meaning IE = parse.IE
meaning MO = parse.MO
meaning SM = parse.SM
meaning MC = parse.MC
meaning EM = parse.EM
meaning Unknown = parse.unknown

-- the bytes of a record of a mark, a text's without its characters
abbrev pub fixed_width : Mark → ℕ
fixed_width m = parse.size_of (meaning m) []
