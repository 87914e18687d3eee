-- The part at a place of a valid table, as its halves are written.
use Prim.Native.Nat.{ℕ, ◌-◌}
use mathlib.Core.Path.{◌≡◌, sym}
use mathlib.Core.List.{List}
use mathlib.Core.Option.{none}
use lib.ListN.{get_or, take, drop}
use mir.Val.{Fits}
use mir.Syntax.{w8}
use Rattle.xliff.specs.Unit.{Target, no_target, target, Part}
use Rattle.xliff.specs.Check.{table_refusal}
use Rattle.table.proofs.WidthLaws.{bytes_known}
use Rattle.parts.specs.Parts.{GoodTarget}
use Rattle.parts.proofs.PlaceLaws.{good_there}
use Rattle.part_at.proofs.HoldLaws.{holds_source}
use Rattle.part_at.proofs.TargetLaws.{target_slice}
use Rattle.halves_of_part.specs.Parts.{PartIs, Rises}
use Rattle.part_at.specs.declared.PartPlace.{PartPlace}
use Rattle.part_at.specs.Stands.{PartStands}

rises_by : (g : Target) → GoodTarget g → Rises g
rises_by no_target k = k
rises_by (target q xs) k = k.1

module _ (t : List ℕ) (h : (i : ℕ) → Fits w8 (get_or t i 0)) (v : table_refusal t ≡ none) (b : List Part) (p : Part) (a : List Part) (x : PartPlace) (s : PartStands t b p a x) where
  pub part_is : PartIs (take (x.source - x.head) (drop x.head t)) (take (x.target - x.source) (drop x.source t)) (take (x.end - x.target) (drop x.target t)) p
  part_is = (sym s.head.is, holds_source t (bytes_known t h) b p a x s, target_slice t (bytes_known t h) b p a x s)

  pub part_rises : Rises p.target
  part_rises = rises_by p.target (good_there t h v b p a x s).1
