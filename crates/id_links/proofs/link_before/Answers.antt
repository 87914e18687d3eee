use Rattle.id_links.proofs.Chains.{up_to_next, up_to_end}
use Rattle.id_links.proofs.link_before.Goals as goal

-- the loop's step
pub loop-i-preserved : goal.loop-i-preserved
loop-i-preserved c =
    let loop = c.loop-i in
    let loop-test = c.loop-i-test in
    let link = c.link in
    up_to_next c.args.keys.now loop.links loop.heads link.new.links link.new.heads loop.i
    loop-test.true c.requires.0 loop.invariant link.ensures.0 link.ensures.1

-- the end
pub returns : goal.returns
returns c =
    let keys = c.args.keys.now in
    let loop = c.loop-i in
    let inv = loop.invariant in
    let e = up_to_end keys loop.links loop.heads loop.i c.loop-i-test.false inv in
    (e.0, e.1, inv.1, inv.2)
