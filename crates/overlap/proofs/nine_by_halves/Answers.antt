use Rattle.halves.proofs.Others.{keys_long}
use native.Mathlib.Omega.{arith}
use borrow.Author.Rules.{rules}
use Rattle.overlap.proofs.nine_by_halves.Goals as goal

-- fill(keys, &mut starts, &mut ends)
pub fill-requires : goal.fill-requires
fill-requires c =
    let pre = c.requires in (
      omega (arith, pre.1, keys_long c.args.t.now c.args.s.markers.now _ pre.0),
      search rules,
      search rules,
    )
