use native.Mathlib.Omega.{arith}
use mathlib.Core.Path.{refl}
use Rattle.ids.proofs.LinkLaws.{links_none}
use Rattle.ids.proofs.MetIds.new.Goals as goal

pub invariant_of-result : goal.invariant_of-result
invariant_of-result c = record { fits = (omega arith, refl); linked = links_none }
