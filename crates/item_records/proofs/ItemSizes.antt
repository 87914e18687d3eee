-- No inline record but a text is longer than a code's.
use Prim.Native.Nat.{◌≤◌}
use native.Mathlib.Omega.{arith}
use lib.ListN.{length}
use Rattle.xliff.specs.Bytes.{two, four}
use Rattle.xliff.specs.Item.{mark}
use Rattle.xliff.specs.Encode.{inline, code_bytes, field_bytes, record_bytes}
use Rattle.xliff.specs.Parse.{code_size}
use Rattle.table.specs.Meaning.{item}
use Rattle.table.specs.declared.Half.TheVariants.{Start, End}
use Rattle.table.specs.declared.Form.TheVariants.{P, S}
use Rattle.table.specs.declared.Item.{Item}
use Rattle.table.specs.declared.Item.TheVariants.{Character, Standalone, Isolated, Pair, AnnotationStart, AnnotationEnd}

pub item_long : (x : Item) → length (record_bytes (inline (item x))) ≤ code_size
unfolding record_bytes mark field_bytes code_bytes two four
item_long (Character c) = omega arith
item_long (Standalone f) = omega arith
item_long (Isolated Start f) = omega arith
item_long (Isolated End f) = omega arith
item_long (Pair P Start f) = omega arith
item_long (Pair P End f) = omega arith
item_long (Pair S Start f) = omega arith
item_long (Pair S End f) = omega arith
item_long (AnnotationStart P i t) = omega arith
item_long (AnnotationStart S i t) = omega arith
item_long (AnnotationEnd P i) = omega arith
item_long (AnnotationEnd S i) = omega arith
