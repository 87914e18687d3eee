-- What is read of a record that is known to be good: its kind, its id. Stepping stones: the laws of proofs/WalkLaws
-- tie them to the items.
use Rattle.std.specs.Prelude.{ℕ, Bool, true, false, ◌&&◌, Option, Some, None, List, eqb, ◌≡◌}
use Rattle.xliff.specs.Bytes.{any, two_at}
use Rattle.xliff.specs.Parse.{Mark, UN, UE, SG, IG, TG, TX, CP, PH, PO, PC, SC, EC, IS, IE, MO, SM, MC, EM, unknown, mark_at}
use Rattle.xliff.specs.Encode.{Record}
use Rattle.walk.specs.Kept.{Of, items}
use Rattle.walk.specs.declared.HalfKind.{HalfKind}
use Rattle.walk.specs.declared.HalfKind.TheVariants.{PairStart, PairEnd, AnnotationStart, AnnotationEnd}
use Rattle.xliff.specs.Item.{Item, Content, start, end, text, character, standalone, isolated, pair, annotation_start, annotation_end, id_of}

-- the number behind the mark
abbrev pub number : List ℕ → ℕ
number t = two_at t 2

-- which half a mark is of: of a pair PO SC and PC EC, of an annotation MO SM and MC EM; all others of none
abbrev pub kind_of : Mark → Option HalfKind
kind_of UN = None
kind_of UE = None
kind_of SG = None
kind_of IG = None
kind_of TG = None
kind_of TX = None
kind_of CP = None
kind_of PH = None
kind_of PO = Some PairStart
kind_of PC = Some PairEnd
kind_of SC = Some PairStart
kind_of EC = Some PairEnd
kind_of IS = None
kind_of IE = None
kind_of MO = Some AnnotationStart
kind_of SM = Some AnnotationStart
kind_of MC = Some AnnotationEnd
kind_of EM = Some AnnotationEnd
kind_of unknown = None

unfoldable pub kind_at : List ℕ → Option HalfKind
kind_at t = kind_of (mark_at t)

abbrev pub kind : Item → Option HalfKind
kind (text c) = None
kind (character c) = None
kind (standalone f) = None
kind (isolated h f) = None
kind (pair start w f) = Some PairStart
kind (pair end w f) = Some PairEnd
kind (annotation_start w i t) = Some AnnotationStart
kind (annotation_end w i) = Some AnnotationEnd

-- the kind of the other half
abbrev pub opposite : HalfKind → HalfKind
opposite PairStart = PairEnd
opposite PairEnd = PairStart
opposite AnnotationStart = AnnotationEnd
opposite AnnotationEnd = AnnotationStart

abbrev pub same_kind : HalfKind → HalfKind → Bool
same_kind PairStart PairStart = true
same_kind PairStart PairEnd = false
same_kind PairStart AnnotationStart = false
same_kind PairStart AnnotationEnd = false
same_kind PairEnd PairStart = false
same_kind PairEnd PairEnd = true
same_kind PairEnd AnnotationStart = false
same_kind PairEnd AnnotationEnd = false
same_kind AnnotationStart PairStart = false
same_kind AnnotationStart PairEnd = false
same_kind AnnotationStart AnnotationStart = true
same_kind AnnotationStart AnnotationEnd = false
same_kind AnnotationEnd PairStart = false
same_kind AnnotationEnd PairEnd = false
same_kind AnnotationEnd AnnotationStart = false
same_kind AnnotationEnd AnnotationEnd = true

-- the two are a start and an end of the same
abbrev pub are_opposite : Option HalfKind → Option HalfKind → Bool
are_opposite None b = false
are_opposite (Some a) None = false
are_opposite (Some a) (Some b) = same_kind (opposite a) b

abbrev pub is_other : Option HalfKind → ℕ → Item → Bool
is_other k i y = are_opposite k (kind y) && eqb i (id_of y)

unfoldable pub has_other : Option HalfKind → ℕ → Content → Bool
has_other k i ys = any (is_other k i) ys

-- the answer r for bytes c, whatever content they are of
abbrev pub FoundOther : List ℕ → Option HalfKind → ℕ → Bool → Type 0
FoundOther c k i r = (rs : List Record) → Of c rs → r ≡ has_other k i (items rs)
