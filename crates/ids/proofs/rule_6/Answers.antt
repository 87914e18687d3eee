use native.Mathlib.Omega.{arith}
use Rattle.orders.proofs.WalkLaws.{walked}
use Rattle.ids.proofs.MeetingLaws.{meeting_start, meeting_end, meeting_room, meeting_refuses, meeting_goes_on}
use Rattle.ids.proofs.rule_6.Goals as goal

-- the loop's start
pub loop-at-init : goal.loop-at-init
loop-at-init c = meeting_start c.args.t.now _ _ c.requires c.new-ids.ensures

-- ids.meets(name_at(t, at, g.head, o))
pub meets-requires : goal.meets-requires
meets-requires c =
    let loop = c.loop-at in
    let inside = c.loop-at-test.true in
    let glance_at = c.glance_at-g in
    let v = walked c.args.t.now loop.at loop.invariant.records
    glance_at.result loop.invariant.here inside glance_at.ensures in
    meeting_room loop.invariant glance_at.result v

-- return Some(at)
pub returns-then-meets : goal.returns-then-meets
returns-then-meets c =
    let loop = c.loop-at in
    let inside = c.loop-at-test.true in
    let glance_at = c.glance_at-g in
    let v = walked c.args.t.now loop.at loop.invariant.records
    glance_at.result loop.invariant.here inside glance_at.ensures in
    meeting_refuses loop.invariant glance_at.result v inside c.name_at.result c.name_at.ensures _ _ c.if-meets.ensures

-- at += g.width
pub overflow_add-at : goal.overflow_add-at
overflow_add-at c =
    let loop = c.loop-at in
    let inside = c.loop-at-test.true in
    let glance_at = c.glance_at-g in
    let v = walked c.args.t.now loop.at loop.invariant.records
    glance_at.result loop.invariant.here inside glance_at.ensures in
    omega (arith, v.fits)

-- the loop ends
pub loop-at-smaller : goal.loop-at-smaller
loop-at-smaller c =
    let loop = c.loop-at in
    let inside = c.loop-at-test.true in
    let glance_at = c.glance_at-g in
    let v = walked c.args.t.now loop.at loop.invariant.records
    glance_at.result loop.invariant.here inside glance_at.ensures in
    omega (arith, v.fits, v.moves)

-- the loop's step
pub loop-at-preserved : goal.loop-at-preserved
loop-at-preserved c =
    let loop = c.loop-at in
    let inside = c.loop-at-test.true in
    let glance_at = c.glance_at-g in
    let v = walked c.args.t.now loop.at loop.invariant.records
    glance_at.result loop.invariant.here inside glance_at.ensures in
    meeting_goes_on loop.invariant glance_at.result v inside c.name_at.result c.name_at.ensures _ _ loop.ids.fits.1
    c.if-meets.ensures c.owner_by-o.result c.owner_by-o.ensures

-- None
pub returns : goal.returns
returns c = meeting_end c.loop-at.invariant c.loop-at-test.false
