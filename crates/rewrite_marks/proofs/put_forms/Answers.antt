use native.Mathlib.Omega.{arith}
use Rattle.orders.proofs.WalkLaws.{walked}
use Rattle.rewrite_marks.proofs.WalkLaws.{written_start, written_length, written_on, written_end, two_left}
use Rattle.rewrite_marks.proofs.put_forms.Goals as goal

-- the loop's start: while at < t.len()
pub loop-at-init : goal.loop-at-init
loop-at-init c =
    let args = c.args in
    written_start args.id args.p args.t.now args.source args.out.now c.requires.0 c.requires.1

-- put_form(out, t, at, inside, id, p): put_form(out, t, at, inside, id, p);
pub put_form-requires : goal.put_form-requires
put_form-requires c =
    let loop = c.loop-at in
    let args = c.args in
    let t = args.t.now in
    let v = walked t loop.at loop.invariant.left c.glance_at-g.result loop.invariant.here c.loop-at-test.true c.glance_at-g.ensures in
    omega (
      arith,
      c.requires.2,
      written_length args.id args.p t args.source args.out.now loop.at loop.inside loop.out loop.invariant c.requires.2,
      two_left args.id args.p t args.source args.out.now loop.at loop.inside loop.out loop.invariant v.step,
    )

-- at += g.width: at += g.width;
pub overflow_add-at : goal.overflow_add-at
overflow_add-at c =
    let loop = c.loop-at in
    let t = c.args.t.now in
    let v = walked t loop.at loop.invariant.left c.glance_at-g.result loop.invariant.here c.loop-at-test.true c.glance_at-g.ensures in
    omega (arith, v.fits)

-- the loop ends: while at < t.len()
pub loop-at-smaller : goal.loop-at-smaller
loop-at-smaller c =
    let loop = c.loop-at in
    let t = c.args.t.now in
    let v = walked t loop.at loop.invariant.left c.glance_at-g.result loop.invariant.here c.loop-at-test.true c.glance_at-g.ensures in
    omega (arith, v.fits, v.moves)

-- the loop's step: while at < t.len()
pub loop-at-preserved : goal.loop-at-preserved
loop-at-preserved c =
    let form = c.put_form in
    let loop = c.loop-at in
    let args = c.args in
    let t = args.t.now in
    let g = c.glance_at-g.result in
    let v = walked t loop.at loop.invariant.left g loop.invariant.here c.loop-at-test.true c.glance_at-g.ensures in
    rw c.inside_of-inside.ensures
    (written_on args.id args.p t args.source args.out.now loop.at loop.inside loop.out loop.invariant g v form.new.out form.ensures)

-- the end: the output keeps its length
pub shape_of-out : goal.shape_of-out
shape_of-out c =
    let loop = c.loop-at in
    let args = c.args in
    written_length args.id args.p args.t.now args.source args.out.now loop.at loop.inside loop.out loop.invariant c.requires.2

-- the end: at the end all marks are written
pub returns : goal.returns
returns c =
    let loop = c.loop-at in
    let args = c.args in
    written_end args.id args.p args.t.now args.source args.out.now loop.at loop.inside loop.out loop.invariant c.loop-at-test.false
