use Prim.Native.Nat.{◌-◌}
use lib.ListN.{length}
use Rattle.granted_parts.specs.Roles.{grant_of}
use Rattle.granted_halves.proofs.WalkLaws.{Going}
use Rattle.granted_halves.proofs.halves_within.Given as goal

-- none stands outside so far
abbrev pub invariant-loop-at : goal.invariant-loop-at
invariant-loop-at l =
    Going l.t (grant_of l.grant.role l.grant.positions.now) l.side l.id l.at l.n l.inside

abbrev pub decreases-loop-at : goal.decreases-loop-at
decreases-loop-at l = length l.t - l.at
