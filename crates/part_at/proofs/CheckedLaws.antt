-- What the check says of a table whose bytes are known.
use Prim.Native.Nat.{ℕ}
use mathlib.Core.Path.{◌≡◌}
use mathlib.Core.List.{List}
use mathlib.Core.Option.{none}
use lib.ListN.{get_or}
use mir.Val.{Fits}
use mir.Syntax.{w8}
use Rattle.xliff.specs.Check.{table_refusal}
use Rattle.places.specs.Passes.{Passes}
use Rattle.places.proofs.Places.{checked_passes}
use Rattle.table.proofs.WidthLaws.{bytes_known}
use Rattle.part_at.specs.declared.PartPlace.{PartPlace}
use Rattle.part_at.specs.Stands.{Checked, CheckedPart}

pub table_passes : (t : List ℕ) → ((i : ℕ) → Fits w8 (get_or t i 0)) → table_refusal t ≡ none → Passes t
table_passes t h v = checked_passes t (bytes_known t h) v

-- a part with a number is a part
pub placed_checked : (t : List ℕ) (n : ℕ) (place : PartPlace) → CheckedPart t n place → Checked t place
placed_checked t n place (v, st) = let (b, p, a, e, s) = st in (v, (b, p, a, s))
