-- A code, read by its fields: they are good or not.
use Prim.Native.Nat.{ℕ}
use mathlib.Core.Path.{◌≡◌, refl, ap, ◌∙◌}
use mathlib.Core.Bool.{Bool, true, false, cond}
use mathlib.Core.List.{List}
use lib.ListN.{length}
use lib.Dec.{leb}
use Rattle.std.specs.Prelude.{Option as RustOption, Some, None}
use Rattle.std.specs.Bool.{then_some}
use Rattle.xliff.specs.Parse.{code_size}
use Rattle.table.specs.Letters.{fields_ok}
use Rattle.table.specs.Records.{sized, fields_of, code_of}
use Rattle.table.specs.declared.Fields.{Fields}
use Rattle.table.specs.declared.Item.{Item}
use Rattle.table.specs.declared.Record.TheVariants.{Inline}
use Rattle.table.specs.declared.Read.{Read}
use Rattle.table.specs.declared.Read.TheVariants.{Good, Broken}

-- what a code makes of its fields
abbrev pub from_fields : (Fields → Item) → RustOption Fields → Read
from_fields item None = Broken false
from_fields item (Some f) = Good (Inline (item f)) code_size

pub code_read : (item : Fields → Item) (t : List ℕ) (alone : Bool) {o : RustOption Fields} → o ≡ code_of t alone
    → from_fields item o ≡ sized false t code_size (fields_ok alone (fields_of t)) (Inline (item (fields_of t)))
unfolding code_of sized
code_read item t alone e =
    ap (from_fields item) e ∙ by (leb code_size (length t)) (fields_ok alone (fields_of t)) (fields_of t)
  where
    by : (a b : Bool) (f : Fields)
        → from_fields item (cond a (then_some b f) None)
        ≡ cond a (cond b (Good (Inline (item f)) code_size) (Broken false)) (Broken false)
    by true true f = refl
    by true false f = refl
    by false b f = refl
