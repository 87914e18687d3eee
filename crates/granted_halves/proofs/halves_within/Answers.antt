use mathlib.Core.Path.{sym, ◌∙◌}
use native.Mathlib.Omega.{arith}
use Rattle.orders.proofs.WalkLaws.{walked}
use Rattle.granted_parts.specs.Roles.{grant_of}
use Rattle.granted_halves.proofs.WalkLaws.{going_start, going_few, going_end, going_found, going_on, count_on, at_most_one}
use Rattle.granted_halves.proofs.halves_within.Goals as goal

-- let mut at: usize = 0;
pub loop-at-init : goal.loop-at-init
loop-at-init c =
    let args = c.args in
    going_start args.t.now (grant_of args.grant.role args.grant.positions.now) args.side args.id c.requires

-- n += usize::from(g.head.is_part());
pub overflow_add-n : goal.overflow_add-n
overflow_add-n c =
    let loop = c.loop-at in
    let args = c.args in
    let grant = grant_of args.grant.role args.grant.positions.now in
    omega (
      arith,
      going_few args.t.now grant args.side args.id loop.at loop.n loop.inside loop.invariant c.requires,
      c.from-n.ensures,
      at_most_one c.is_part.result,
    )

-- at += g.width;
pub overflow_add-at : goal.overflow_add-at
overflow_add-at c =
    let loop = c.loop-at in
    let seen = walked c.args.t.now loop.at loop.invariant.left c.glance_at-g.result loop.invariant.here c.loop-at-test.true
    c.glance_at-g.ensures in
    omega (arith, seen.fits)

-- the loop ends: while at < t.len()
pub loop-at-smaller : goal.loop-at-smaller
loop-at-smaller c =
    let loop = c.loop-at in
    let seen = walked c.args.t.now loop.at loop.invariant.left c.glance_at-g.result loop.invariant.here c.loop-at-test.true
    c.glance_at-g.ensures in
    omega (arith, seen.fits, seen.moves)

-- true
pub returns : goal.returns
returns c =
    let loop = c.loop-at in
    let args = c.args in
    let grant = grant_of args.grant.role args.grant.positions.now in
    sym
    (going_end args.t.now grant args.side args.id loop.at loop.n loop.inside loop.invariant
    c.loop-at-test.false)

-- if stands_outside(t, at, grant, n, inside, id) { return false; }
pub returns-then-stands_outside : goal.returns-then-stands_outside
returns-then-stands_outside c =
    let loop = c.loop-at in
    let seen = walked c.args.t.now loop.at loop.invariant.left c.glance_at-g.result loop.invariant.here c.loop-at-test.true
    c.glance_at-g.ensures in
    let args = c.args in
    let grant = grant_of args.grant.role args.grant.positions.now in
    let outside = sym c.stands_outside.ensures ∙ c.if-stands_outside.true in
    sym
    (going_found args.t.now grant args.side args.id loop.at loop.n loop.inside loop.invariant
    c.glance_at-g.result seen outside)

-- the loop's step: n, inside and at are those of the next record
pub loop-at-preserved : goal.loop-at-preserved
loop-at-preserved c =
    let loop = c.loop-at in
    let seen = walked c.args.t.now loop.at loop.invariant.left c.glance_at-g.result loop.invariant.here c.loop-at-test.true
    c.glance_at-g.ensures in
    let args = c.args in
    let grant = grant_of args.grant.role args.grant.positions.now in
    let none = sym c.stands_outside.ensures ∙ c.if-stands_outside.false in
    rw (c.from-n.ensures, count_on c.is_part.result loop.n, c.is_part.ensures, c.inside_of-inside.ensures)
    (going_on args.t.now grant args.side args.id loop.at loop.n loop.inside loop.invariant
    c.glance_at-g.result seen none)
