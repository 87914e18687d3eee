use native.Mathlib.Omega.{arith}
use Rattle.id_links.proofs.After.{down_to_next, down_to_start, down_to_end}
use Rattle.id_links.proofs.link_after.Goals as goal

-- the loop's start
pub loop-i-init : goal.loop-i-init
loop-i-init c =
    let args = c.args in
    down_to_start args.keys.now args.links.now c.requires.1

-- the loop's step
pub loop-i-preserved : goal.loop-i-preserved
loop-i-preserved c =
    let loop = c.loop-i in
    down_to_next c.args.keys.now loop.links loop.heads loop.i c.group_of-g.result
    c.loop-i-test.true c.requires.0 c.group_of-g.ensures loop.invariant

-- the end
pub returns : goal.returns
returns c =
    let keys = c.args.keys.now in
    let loop = c.loop-i in (
      down_to_end keys loop.links loop.heads loop.i (omega (arith, c.loop-i-test.false)) loop.invariant,
      loop.invariant.1,
    )
