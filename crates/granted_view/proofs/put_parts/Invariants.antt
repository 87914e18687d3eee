use Prim.Native.Nat.{◌-◌}
use lib.ListN.{length}
use Rattle.granted_parts.specs.Roles.{grant_of}
use Rattle.part_texts.proofs.WalkLaws.{PartsPut}
use Rattle.granted_view.proofs.WalkLaws.{shown_part}
use Rattle.granted_view.proofs.put_parts.Given as goal

-- the parts so far are written as the view shows them
abbrev pub invariant-loop-role : goal.invariant-loop-role
invariant-loop-role l =
    PartsPut (shown_part (grant_of l.role l.positions)) l.t l.initial.draft l.at l.n l.draft

abbrev pub decreases-loop-role : goal.decreases-loop-role
decreases-loop-role l = length l.t - l.at
