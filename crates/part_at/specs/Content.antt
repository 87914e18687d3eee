-- The records of a content, and where it ends.
use Rattle.std.specs.Prelude.{ℕ, ◌+◌, ◌≡◌, Bool, true, false, not, List, [], ◌∷◌, ◌++◌, length}
use Rattle.xliff.specs.Encode as encode
use Rattle.xliff.specs.Encode.{opening, closing, part_head, target_head, text_run, inline, ill_text, broken, spell}
use Rattle.places.specs.Offsets.{At, Inner}
use Rattle.table.specs.declared.Record.{Record}
use Rattle.table.specs.declared.Record.TheVariants.{Unit as UnitStart, UnitEnd, Segment, Ignorable, Target, Text, Inline}
use Rattle.table.specs.declared.Read.{Read}
use Rattle.table.specs.declared.Read.TheVariants.{Good, Ill, Broken}

unfoldable pub is_content : encode.Record → Bool
is_content (opening c) = false
is_content closing = false
is_content (part_head h) = false
is_content (target_head q) = false
is_content (text_run cs) = true
is_content (inline x) = true
is_content ill_text = false
is_content (broken b) = false

-- the code's cases
abbrev pub is_in_content : Record → Bool
is_in_content (UnitStart c) = false
is_in_content UnitEnd = false
is_in_content (Segment f) = false
is_in_content (Ignorable i) = false
is_in_content (Target q) = false
is_in_content Text = true
is_in_content (Inline i) = true

abbrev pub is_content_read : Read → Bool
is_content_read (Good x w) = is_in_content x
is_content_read Ill = false
is_content_read (Broken b) = false

-- no record of a content comes first
unfoldable pub outer : List encode.Record → Bool
outer [] = true
outer (r ∷ rs) = not (is_content r)

-- at an offset stand the records of a content, then others
abbrev pub ContentAt : List ℕ → ℕ → Type 0
ContentAt t at = (inner : List encode.Record) × (rest : List encode.Record) × At t at (inner ++ rest) × Inner inner × (outer rest ≡ true)

abbrev pub ContentEnds : List ℕ → ℕ → ℕ → Type 0
ContentEnds t at r = (inner rest : List encode.Record) → At t at (inner ++ rest) → Inner inner → outer rest ≡ true → r ≡ at + length (spell inner)
