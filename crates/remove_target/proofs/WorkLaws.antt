-- The unit without the target as it stands at the head of the scratch array.
use Prim.Native.Nat.{ℕ}
use mathlib.Core.Path.{◌≡◌}
use mathlib.Core.List.{List}
use mathlib.Core.Option.{none}
use lib.ListN.{get_or}
use mir.Val.{Fits}
use mir.Syntax.{w8}
use Rattle.xliff.specs.Unit.{Part}
use Rattle.xliff.specs.Encode.{encode}
use Rattle.xliff.specs.Parse.{unit}
use Rattle.xliff.specs.Check.{table_refusal}
use Rattle.part_at.specs.declared.PartPlace.{PartPlace}
use Rattle.part_at.specs.Stands.{PartStands}
use Rattle.writer.specs.Pieces.{Written}
use Rattle.removed_target.specs.Removed.{removed_unit}
use Rattle.result_rules.proofs.WorkLaws.{Work, work_written}
use Rattle.remove_target.proofs.GoodLaws.{removed_good}

pub removed_work : (t : List ℕ) → ((i : ℕ) → Fits w8 (get_or t i 0)) → table_refusal t ≡ none → (b : List Part) (p : Part) (a : List Part) (place : PartPlace)
    → PartStands t b p a place → (o l : List ℕ) (n : ℕ) → Written (encode (removed_unit (unit t) b p a)) o n l
    → Work (removed_unit (unit t) b p a) n l
removed_work t h v b p a place s o l n w =
    work_written (removed_unit (unit t) b p a) o l n (removed_good t h v b p a place s) w
