-- The words of the subset: names of elements and attributes, values, XML's five entities. A word is the list of its
-- code points.
use Rattle.std.specs.Prelude.{ℕ, List, [], ◌∷◌}
use Prim.Native.Char.{code}
use Prim.Native.String.{String, [] as ε, ◌∷◌ as ◌◂◌}

unfoldable pub codes : String → List ℕ
codes ε = []
codes (c ◂ s) = code c ∷ codes s

-- elements
unfoldable pub 'unit' : List ℕ
'unit' = codes "unit"

unfoldable pub 'segment' : List ℕ
'segment' = codes "segment"

unfoldable pub 'ignorable' : List ℕ
'ignorable' = codes "ignorable"

unfoldable pub 'source' : List ℕ
'source' = codes "source"

unfoldable pub 'target' : List ℕ
'target' = codes "target"

unfoldable pub 'cp' : List ℕ
'cp' = codes "cp"

unfoldable pub 'ph' : List ℕ
'ph' = codes "ph"

unfoldable pub 'pc' : List ℕ
'pc' = codes "pc"

unfoldable pub 'sc' : List ℕ
'sc' = codes "sc"

unfoldable pub 'ec' : List ℕ
'ec' = codes "ec"

unfoldable pub 'mrk' : List ℕ
'mrk' = codes "mrk"

unfoldable pub 'sm' : List ℕ
'sm' = codes "sm"

unfoldable pub 'em' : List ℕ
'em' = codes "em"

-- attributes
unfoldable pub 'id' : List ℕ
'id' = codes "id"

unfoldable pub 'canResegment' : List ℕ
'canResegment' = codes "canResegment"

unfoldable pub 'state' : List ℕ
'state' = codes "state"

unfoldable pub 'order' : List ℕ
'order' = codes "order"

unfoldable pub 'hex' : List ℕ
'hex' = codes "hex"

unfoldable pub 'copyOf' : List ℕ
'copyOf' = codes "copyOf"

unfoldable pub 'dataRef' : List ℕ
'dataRef' = codes "dataRef"

unfoldable pub 'dataRefStart' : List ℕ
'dataRefStart' = codes "dataRefStart"

unfoldable pub 'dataRefEnd' : List ℕ
'dataRefEnd' = codes "dataRefEnd"

unfoldable pub 'startRef' : List ℕ
'startRef' = codes "startRef"

unfoldable pub 'canCopy' : List ℕ
'canCopy' = codes "canCopy"

unfoldable pub 'canDelete' : List ℕ
'canDelete' = codes "canDelete"

unfoldable pub 'canOverlap' : List ℕ
'canOverlap' = codes "canOverlap"

unfoldable pub 'canReorder' : List ℕ
'canReorder' = codes "canReorder"

unfoldable pub 'isolated' : List ℕ
'isolated' = codes "isolated"

unfoldable pub 'translate' : List ℕ
'translate' = codes "translate"

-- values
unfoldable pub 'yes' : List ℕ
'yes' = codes "yes"

unfoldable pub 'no' : List ℕ
'no' = codes "no"

unfoldable pub 'firstNo' : List ℕ
'firstNo' = codes "firstNo"

unfoldable pub 'initial' : List ℕ
'initial' = codes "initial"

unfoldable pub 'translated' : List ℕ
'translated' = codes "translated"

unfoldable pub 'reviewed' : List ℕ
'reviewed' = codes "reviewed"

unfoldable pub 'final' : List ℕ
'final' = codes "final"

-- entities, behind the &
unfoldable pub 'amp' : List ℕ
'amp' = codes "amp;"

unfoldable pub 'lt' : List ℕ
'lt' = codes "lt;"

unfoldable pub 'gt' : List ℕ
'gt' = codes "gt;"

unfoldable pub 'quot' : List ℕ
'quot' = codes "quot;"

unfoldable pub 'apos' : List ℕ
'apos' = codes "apos;"

unfoldable pub Words·all : Unit {0}
unfolding codes 'unit' 'segment' 'ignorable' 'source' 'target' 'cp' 'ph' 'pc' 'sc' 'ec' 'mrk' 'sm' 'em' 'id' 'canResegment'
    'state' 'order' 'hex' 'copyOf' 'dataRef' 'dataRefStart' 'dataRefEnd' 'startRef' 'canCopy' 'canDelete' 'canOverlap'
    'canReorder' 'isolated' 'translate' 'yes' 'no' 'firstNo' 'initial' 'translated' 'reviewed' 'final' 'amp' 'lt' 'gt'
    'quot' 'apos'
Words·all = tt
