use native.Mathlib.Omega.{arith}
use Rattle.orders.proofs.WalkLaws.{few_parts}
use Rattle.sequences.proofs.markers.Goals as goal

-- marks::narrow(parts)
pub narrow-requires : goal.narrow-requires
narrow-requires c =
    omega (arith, c.requires.2, few_parts c.args.t.now c.requires.0)

-- target.hold_target(t, marks::narrow(parts))
pub hold_target-requires : goal.hold_target-requires
hold_target-requires c =
    let pre = c.requires in
    (pre.0, pre.1, omega (arith, c.narrow.ensures, pre.2, few_parts c.args.t.now pre.0))
