use Rattle.halves.proofs.Follow.{before_start, before_next}
use Rattle.halves.specs.Nearest.{others}
use Rattle.id_links.proofs.Scans.{previous_hit, previous_none}
use Rattle.id_links.specs.Nearest.{previous}
use native.Mathlib.Omega.{arith}
use mathlib.Core.Path.{◌≡◌, ◌∙◌, sym, ap}
use Rattle.halves.proofs.follow_before.Goals as goal

-- the loop's start
pub loop-j-init : goal.loop-j-init
loop-j-init c =
    let args = c.args in
    let pre = c.requires in
    before_start args.keys.now args.links.now args.i pre.3 c.wide-j.result pre.0
    c.wide-j.ensures.0

-- return Some(j)
pub returns-then-is_other : goal.returns-then-is_other
returns-then-is_other c =
    let args = c.args in
    let loop = c.loop-j in
    let loop-test = c.loop-j-test in
    let met =
    loop.invariant.1
    ∙ previous_hit (others args.keys.now args.i) loop.j loop-test.true
    (sym c.is_other.ensures ∙ c.if-is_other.true) in
    (omega (arith, met, loop-test.true), omega (arith, loop.invariant.0, loop-test.true))

-- the loop ends
pub loop-j-smaller : goal.loop-j-smaller
loop-j-smaller c =
    let args = c.args in
    let pre = c.requires in
    let loop = c.loop-j in
    let loop-test = c.loop-j-test in
    let is_other = c.is_other in
    (before_next args.keys.now args.links.now args.i pre.3 c.wide-j-in-loop-j.result pre.0 loop.j
    loop-test.true loop.invariant (sym is_other.ensures ∙ c.if-is_other.false) c.wide-j-in-loop-j.ensures.0
    ).0

-- the loop's step
pub loop-j-preserved : goal.loop-j-preserved
loop-j-preserved c =
    let args = c.args in
    let pre = c.requires in
    let loop = c.loop-j in
    let loop-test = c.loop-j-test in
    let is_other = c.is_other in
    (before_next args.keys.now args.links.now args.i pre.3 c.wide-j-in-loop-j.result pre.0 loop.j
    loop-test.true loop.invariant (sym is_other.ensures ∙ c.if-is_other.false) c.wide-j-in-loop-j.ensures.0
    ).1

-- None
pub returns : goal.returns
returns c =
    let keys = c.args.keys.now in
    let i = c.args.i in
    let loop = c.loop-j in
    loop.invariant.1
    ∙ ap (previous (others keys i)) (let z : loop.j ≡ 0 = omega (arith, c.loop-j-test.false) in z)
    ∙ previous_none (others keys i)
