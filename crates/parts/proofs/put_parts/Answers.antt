use Prim.Native.Nat.{◌-◌}
use mathlib.Core.Path.{refl, ap}
use native.Mathlib.Omega.{arith}
use lib.ListN.{length, drop, length-drop, length-take}
use Rattle.xliff.specs.Bytes.{gather}
use Rattle.xliff.specs.Good.{Each}
use Rattle.xliff.specs.Encode.{part_records}
use Rattle.walk.specs.Kept.{InPart}
use Rattle.cut.proofs.LoopLaws.{written_length}
use Rattle.parts.specs.Parts.{moved, order_record}
use Rattle.parts.proofs.RecordLaws.{next}
use Rattle.parts.proofs.LoopLaws.{parts_start, parts_on, parts_end}
use Rattle.parts.proofs.put_parts.Goals as goal

-- before the first record
pub loop-at-init : goal.loop-at-init
loop-at-init c =
    let args = c.args in
    (omega arith, refl, λ ps o. parts_start args.t.now (moved args.up args.q) ps args.out.now o)

-- the next record ends within the parts
pub overflow_add-next : goal.overflow_add-next
overflow_add-next c =
    let pre = c.requires in
    let args = c.args in
    let loop = c.loop-at in
    let loop-test = c.loop-at-test.true in
    let width_at = c.width_at in
    let (ps, o) = pre.0 in
    let m = (loop.invariant.2 ps o).upto in
    omega (arith, (next args.t.now loop.at _ m.after loop-test m.rest width_at.ensures).fit)

-- and within the output
pub slice_bounds-put_record-end : goal.slice_bounds-put_record-end
slice_bounds-put_record-end c =
    let pre = c.requires in
    let args = c.args in
    let loop = c.loop-at in
    let loop-test = c.loop-at-test.true in
    let width_at = c.width_at in
    let (ps, o) = pre.0 in
    let m = (loop.invariant.2 ps o).upto in
    omega (arith, (next args.t.now loop.at _ m.after loop-test m.rest width_at.ensures).fit)

-- `&t[at..next]` lies within the parts
pub slice_bounds-put_record-end-in-loop-at : goal.slice_bounds-put_record-end-in-loop-at
slice_bounds-put_record-end-in-loop-at c =
    let pre = c.requires in
    let args = c.args in
    let loop = c.loop-at in
    let loop-test = c.loop-at-test.true in
    let width_at = c.width_at in
    let (ps, o) = pre.0 in
    let m = (loop.invariant.2 ps o).upto in
    omega (arith, (next args.t.now loop.at _ m.after loop-test m.rest width_at.ensures).fit)

-- it is one record, and there is room
pub put_record-requires : goal.put_record-requires
put_record-requires c =
    let pre = c.requires in
    let args = c.args in
    let loop = c.loop-at in
    let loop-test = c.loop-at-test.true in
    let width_at = c.width_at in
    let (ps, o) = pre.0 in
    let at-now = loop.at in
    let out = loop.out in
    let m = (loop.invariant.2 ps o).upto in
    let n = next args.t.now at-now _ m.after loop-test m.rest width_at.ensures in (
      (n.first, n.good, n.slice),
      omega (arith, n.fit, n.width, ap length n.slice, length-take (length out - at-now) (drop at-now out), length-drop at-now out),
    )

-- the walk goes on
pub loop-at-smaller : goal.loop-at-smaller
loop-at-smaller c =
    let pre = c.requires in
    let args = c.args in
    let loop = c.loop-at in
    let loop-test = c.loop-at-test.true in
    let width_at = c.width_at in
    let (ps, o) = pre.0 in
    let m = (loop.invariant.2 ps o).upto in
    let n = next args.t.now loop.at _ m.after loop-test m.rest width_at.ensures in
    omega (arith, n.fit, n.least)

-- one record more is written
pub loop-at-preserved : goal.loop-at-preserved
loop-at-preserved c =
    let pre = c.requires in
    let args = c.args in
    let loop = c.loop-at in
    let loop-test = c.loop-at-test.true in
    let width_at = c.width_at in
    let put_record = c.put_record in
    let (ps, o) = pre.0 in
    let t = args.t.now in
    let f = moved args.up args.q in
    let out = args.out.now in
    let m = loop.invariant.2 ps o in
    let fit = (next t loop.at _ m.upto.after loop-test m.upto.rest width_at.ensures).fit in
    let on = parts_on t f ps out loop.at _ loop.out put_record.new.out m loop-test width_at.ensures put_record.ensures in (
      omega (arith, fit),
      written_length (Each InPart) (order_record f) t (gather part_records ps) out _ _ on (omega (arith, fit)),
      λ ps o. parts_on t f ps out loop.at _ loop.out put_record.new.out (loop.invariant.2 ps o) loop-test width_at.ensures
          put_record.ensures,
    )

-- the output keeps its length
pub shape_of-out : goal.shape_of-out
shape_of-out c =
    let loop = c.loop-at in
    loop.invariant.1

-- all records are written
pub returns : goal.returns
returns c =
    let args = c.args in
    let loop = c.loop-at in
    let loop-test = c.loop-at-test.false in
    λ ps o.
    parts_end args.t.now (moved args.up args.q) ps args.out.now loop.at loop.out
    loop-test loop.invariant.0 o (loop.invariant.2 ps o)
