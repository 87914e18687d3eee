use Rattle.places.specs.Markers.{item_at}
use Prim.Native.Nat.{ℕ}
use Rattle.keys.specs.Keys.{key}
use Rattle.keys.proofs.FilledLaws.{Filling}
use Rattle.keys.proofs.keys_at.Given as goal

abbrev pub invariant-loop-i : goal.invariant-loop-i
invariant-loop-i l = Filling (λ (o : ℕ). key (item_at l.t o)) l.markers l.initial.out l.out l.i
