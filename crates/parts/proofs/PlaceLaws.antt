-- The parts before and behind a part that stands in a valid table.
use Prim.Native.Nat.{ℕ, ◌-◌}
use mathlib.Core.Path.{◌≡◌, sym, subst}
use mathlib.Core.List.{List}
use mathlib.Core.Option.{none}
use lib.ListN.{length, get_or, take, drop}
use mir.Val.{Fits}
use mir.Syntax.{w8}
use Rattle.xliff.specs.Unit.{Part}
use Rattle.xliff.specs.Check.{table_refusal}
use Rattle.xliff.specs.Good.{Each}
use Rattle.xliff.proofs.lists.Each.{each_apart}
use Rattle.table.proofs.WidthLaws.{bytes_known}
use Rattle.part_at.specs.declared.PartPlace.{PartPlace}
use Rattle.part_at.specs.Stands.{PartStands}
use Rattle.part_at.proofs.SliceLaws.{before_is, behind_is}
use Rattle.parts.specs.Parts.{GoodPart, PartsIn}
use Rattle.parts.proofs.CheckLaws.{table_of}

module _ (t : List ℕ) (h : (i : ℕ) → Fits w8 (get_or t i 0)) (v : table_refusal t ≡ none) (b : List Part) (p : Part) (a : List Part)
    (x : PartPlace) (s : PartStands t b p a x) where
  good_apart : Each GoodPart b × GoodPart p × Each GoodPart a
  good_apart = each_apart b p a (subst (Each GoodPart) s.all (table_of t (bytes_known t h) v).1)

  pub good_there : GoodPart p
  good_there = good_apart.1

  pub before_in : PartsIn (take (x.head - 3) (drop 3 t)) b
  before_in = (sym (before_is t b p a x s), good_apart.0)

  pub behind_in : PartsIn (take (length t - 2 - x.end) (drop x.end t)) a
  behind_in = (sym (behind_is t b p a x s), good_apart.2)
