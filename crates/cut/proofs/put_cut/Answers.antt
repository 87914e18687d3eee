use Prim.Native.Nat.{◌-◌}
use mathlib.Core.Path.{refl, ap}
use native.Mathlib.Omega.{arith}
use lib.ListN.{length, drop, length-drop, length-take}
use Rattle.walk.specs.Kept.{items, InContent}
use Rattle.walk.proofs.WalkLaws.{rest_start, next, next_mark, rest_end}
use Rattle.cut.specs.Turned.{cut_record}
use Rattle.cut.proofs.LoopLaws.{written_start, written_end, written_length}
use Rattle.cut.proofs.WriteLaws.{cut_on}
use Rattle.cut.proofs.put_cut.Goals as goal

-- before the first record
pub loop-at-init : goal.loop-at-init
loop-at-init c =
    let args = c.args in (
      omega arith,
      refl,
      λ rs qs o p. written_start InContent (cut_record (items qs)) args.a.now rs args.out.now
          (rest_start args.a.now rs o),
    )

-- the next record ends within the content
pub overflow_add-next : goal.overflow_add-next
overflow_add-next c =
    let pre = c.requires in
    let args = c.args in
    let loop = c.loop-at in
    let loop-test = c.loop-at-test.true in
    let width_at = c.width_at in
    let ((rs, o), (qs, p), room) = pre in
    let m = (loop.invariant.2 rs qs o p).upto in
    omega (arith, (next args.a.now loop.at _ m.after loop-test m.rest width_at.ensures).fit)

-- and within the output
pub slice_bounds-put_cut_one-end : goal.slice_bounds-put_cut_one-end
slice_bounds-put_cut_one-end c =
    let pre = c.requires in
    let args = c.args in
    let loop = c.loop-at in
    let loop-test = c.loop-at-test.true in
    let width_at = c.width_at in
    let ((rs, o), (qs, p), room) = pre in
    let m = (loop.invariant.2 rs qs o p).upto in
    omega (arith, (next args.a.now loop.at _ m.after loop-test m.rest width_at.ensures).fit)

-- `&a[at..next]` lies within the content
pub slice_bounds-put_cut_one-end-in-loop-at : goal.slice_bounds-put_cut_one-end-in-loop-at
slice_bounds-put_cut_one-end-in-loop-at c =
    let pre = c.requires in
    let args = c.args in
    let loop = c.loop-at in
    let loop-test = c.loop-at-test.true in
    let width_at = c.width_at in
    let ((rs, o), (qs, p), room) = pre in
    let m = (loop.invariant.2 rs qs o p).upto in
    omega (arith, (next args.a.now loop.at _ m.after loop-test m.rest width_at.ensures).fit)

-- it is one record, of the mark read, and there is room
pub put_cut_one-requires : goal.put_cut_one-requires
put_cut_one-requires c =
    let pre = c.requires in
    let args = c.args in
    let loop = c.loop-at in
    let loop-test = c.loop-at-test.true in
    let width_at = c.width_at in
    let mark_at = c.mark_at in
    let ((rs, o), (qs, p), room) = pre in
    let a = args.a.now in
    let at-now = loop.at in
    let out = loop.out in
    let m = (loop.invariant.2 rs qs o p).upto in
    let n = next a at-now _ m.after loop-test m.rest width_at.ensures in (
      (n.first, n.good, n.slice),
      next_mark a at-now _ m.after n mark_at.result mark_at.ensures,
      (qs, p),
      omega (arith, n.fit, n.width, ap length n.slice, length-take (length out - at-now) (drop at-now out), length-drop at-now out),
    )

-- the walk goes on
pub loop-at-smaller : goal.loop-at-smaller
loop-at-smaller c =
    let pre = c.requires in
    let args = c.args in
    let loop = c.loop-at in
    let loop-test = c.loop-at-test.true in
    let width_at = c.width_at in
    let ((rs, o), (qs, p), room) = pre in
    let m = (loop.invariant.2 rs qs o p).upto in
    let n = next args.a.now loop.at _ m.after loop-test m.rest width_at.ensures in
    omega (arith, n.fit, n.least)

-- one record more is written
pub loop-at-preserved : goal.loop-at-preserved
loop-at-preserved c =
    let pre = c.requires in
    let args = c.args in
    let loop = c.loop-at in
    let loop-test = c.loop-at-test.true in
    let width_at = c.width_at in
    let put-cut-one = c.put_cut_one in
    let ((rs, o), (qs, p), room) = pre in
    let a = args.a.now in
    let beyond = args.beyond.now in
    let out = args.out.now in
    let m = loop.invariant.2 rs qs o p in
    let fit = (next a loop.at _ m.upto.after loop-test m.upto.rest width_at.ensures).fit in
    let on = cut_on a beyond rs qs out loop.at _ loop.out put-cut-one.new.out p m loop-test width_at.ensures
    put-cut-one.ensures in (
      omega (arith, fit),
      written_length InContent (cut_record (items qs)) a rs out _ _ on (omega (arith, fit)),
      λ rs qs o p. cut_on a beyond rs qs out loop.at _ loop.out put-cut-one.new.out p (loop.invariant.2 rs qs o p) loop-test
          width_at.ensures put-cut-one.ensures,
    )

-- the output keeps its length
pub shape_of-out : goal.shape_of-out
shape_of-out c =
    let loop = c.loop-at in
    loop.invariant.1

-- all records are written
pub returns : goal.returns
returns c =
    let args = c.args in
    let loop = c.loop-at in
    let loop-test = c.loop-at-test.false in (
      omega arith,
      λ rs qs o p.
          let m = loop.invariant.2 rs qs o p in
          let none = rest_end args.a.now loop.at m.upto.after loop-test m.upto.rest in
          written_end InContent (cut_record (items qs)) args.a.now rs args.out.now loop.at loop.out m none,
    )
