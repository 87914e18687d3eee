-- What the program tells of an element by its attributes. Stepping stones.
use Rattle.std.specs.Prelude.{ℕ, Bool, cond, List, ◌∷◌, Option as RustOption, Some, None}
use Rattle.std.proofs.Math.Option.{Option, none, some}
use Rattle.xliff.specs.Bytes.{'Y', equal}
use Rattle.xliff.specs.Item as xliff
use Rattle.xliff.specs.Item.{form_S, isolated, pair}
use Rattle.xml.specs.Words.{'dataRef', 'canOverlap', 'mrk', 'sm', 'em'}
use Rattle.xml.specs.Tokens.{Attribute}
use Rattle.xml.specs.Attributes.{only, choice, code_fields, yes_no}
use Rattle.xml.specs.Elements as xml
use Rattle.xml.specs.Elements.{single, nested, code_names, read_mrk, read_sm, read_em}
use Rattle.table.specs.Meaning.{fields, item}
use Rattle.table.specs.declared.Fields.{Fields}
use Rattle.xml_elements.specs.declared.Inline.{Inline}
use Rattle.xml_elements.specs.declared.Inline.TheVariants.{Single, Nested}

-- the fields of a code, if they are good
abbrev pub coded_meaning : RustOption Fields → Option xliff.Fields
coded_meaning (Some f) = some (fields f)
coded_meaning None = none

-- an inline element, if it is one
abbrev pub inline_meaning : RustOption Inline → Option xml.Inline
inline_meaning (Some (Single x)) = some (single (item x))
inline_meaning (Some (Nested x y)) = some (nested (item x) (item y))
inline_meaning None = none

-- the fields of sc and ec, by the name of their id
unfoldable pub half_fields : List ℕ → List Attribute → Option xliff.Fields
half_fields name ats =
    cond (only (name ∷ code_names) ats) (code_fields name 'dataRef' (choice 'canOverlap' yes_no 'Y' ats) ats) none

-- a half of a pair, or an isolated code
unfoldable pub half_item : Bool → xliff.Half → xliff.Fields → xliff.Item
half_item alone h f = cond alone (isolated h f) (pair h form_S f)

-- the annotations
unfoldable pub annotation_of_name : List ℕ → List Attribute → Option xml.Inline
annotation_of_name n ats =
    cond (equal n 'mrk') (read_mrk ats) (cond (equal n 'sm') (read_sm ats) (cond (equal n 'em') (read_em ats) none))
