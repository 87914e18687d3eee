-- The inline codes, marks taken as when flattened: by the mark of a good record, and of an item. Stepping stones:
-- `item_code` (proofs/CodeLaws) ties the two.
use Rattle.std.specs.Prelude.{ℕ, Bool, true, false, Option, Some, None, List}
use Rattle.xliff.specs.Item.{Item, Content, start, end, text, character, standalone, isolated, pair, annotation_start, annotation_end}
use Rattle.walk.specs.Kept.{Holds}
use Rattle.xliff.specs.Parse.{Mark, UN, UE, SG, IG, TG, TX, CP, PH, PO, PC, SC, EC, IS, IE, MO, SM, MC, EM, unknown, mark_at}
use Rattle.codes.specs.declared.Code.{Code}
use Rattle.codes.specs.declared.Code.TheVariants.{PairStart, PairEnd, Standalone, IsolatedStart, IsolatedEnd}

-- a pair's start PO SC and end PC EC, PH, IS, IE; none for text, a character or an annotation
abbrev pub code_of : Mark → Option Code
code_of UN = None
code_of UE = None
code_of SG = None
code_of IG = None
code_of TG = None
code_of TX = None
code_of CP = None
code_of PH = Some Standalone
code_of PO = Some PairStart
code_of PC = Some PairEnd
code_of SC = Some PairStart
code_of EC = Some PairEnd
code_of IS = Some IsolatedStart
code_of IE = Some IsolatedEnd
code_of MO = None
code_of SM = None
code_of MC = None
code_of EM = None
code_of unknown = None

unfoldable pub code_at : List ℕ → Option Code
code_at t = code_of (mark_at t)

abbrev pub code : Item → Option Code
code (text c) = None
code (character c) = None
code (standalone f) = Some Standalone
code (isolated start f) = Some IsolatedStart
code (isolated end f) = Some IsolatedEnd
code (pair start w f) = Some PairStart
code (pair end w f) = Some PairEnd
code (annotation_start w i t) = None
code (annotation_end w i) = None

abbrev pub same_code : Code → Code → Bool
same_code PairStart PairStart = true
same_code PairStart PairEnd = false
same_code PairStart Standalone = false
same_code PairStart IsolatedStart = false
same_code PairStart IsolatedEnd = false
same_code PairEnd PairStart = false
same_code PairEnd PairEnd = true
same_code PairEnd Standalone = false
same_code PairEnd IsolatedStart = false
same_code PairEnd IsolatedEnd = false
same_code Standalone PairStart = false
same_code Standalone PairEnd = false
same_code Standalone Standalone = true
same_code Standalone IsolatedStart = false
same_code Standalone IsolatedEnd = false
same_code IsolatedStart PairStart = false
same_code IsolatedStart PairEnd = false
same_code IsolatedStart Standalone = false
same_code IsolatedStart IsolatedStart = true
same_code IsolatedStart IsolatedEnd = false
same_code IsolatedEnd PairStart = false
same_code IsolatedEnd PairEnd = false
same_code IsolatedEnd Standalone = false
same_code IsolatedEnd IsolatedStart = false
same_code IsolatedEnd IsolatedEnd = true

-- both are codes, and the same
abbrev pub are_same : Option Code → Option Code → Bool
are_same None b = false
are_same (Some a) None = false
are_same (Some a) (Some b) = same_code a b

-- c and d are the bytes of two contents
abbrev pub BothContents : List ℕ → List ℕ → Type 0
BothContents c d = (xs : Content) × (ys : Content) × Holds c xs × Holds d ys
