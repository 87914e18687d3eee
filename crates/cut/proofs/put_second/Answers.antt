use mathlib.Core.Path.{sym}
use native.Mathlib.Omega.{arith}
use Rattle.xliff.proofs.lists.Slices.{tail_room}
use Rattle.cut.proofs.WriteLaws.{second_fits, second_clean, second_inner}
use Rattle.cut.proofs.put_second.Goals as goal

-- `&c[at..]`
pub slice_bounds-put_cut-count : goal.slice_bounds-put_cut-count
slice_bounds-put_cut-count c =
    let args = c.args in
    let pre = c.requires in
    let place_of = c.place_of-at in
    (second_fits args.k args.c.now place_of.result place_of.ensures args.out.now pre).fit

-- the same
pub slice_bounds-put_cut-start : goal.slice_bounds-put_cut-start
slice_bounds-put_cut-start c =
    let args = c.args in
    let pre = c.requires in
    let place_of = c.place_of-at in
    omega (arith, (second_fits args.k args.c.now place_of.result place_of.ensures args.out.now pre).fit)

-- `&c[..at]`
pub slice_bounds-put_cut-end-then-into-eq0 : goal.slice_bounds-put_cut-end-then-into-eq0
slice_bounds-put_cut-end-then-into-eq0 c =
    let args = c.args in
    let pre = c.requires in
    let place_of = c.place_of-at in
    sym (second_fits args.k args.c.now place_of.result place_of.ensures args.out.now pre).long

-- both are contents, and there is room
pub put_cut-requires : goal.put_cut-requires
put_cut-requires c =
    let args = c.args in
    let pre = c.requires in
    let place_of = c.place_of-at in
    let if1 = c.if-into-eq0.true in
    let f = second_fits args.k args.c.now place_of.result place_of.ensures args.out.now pre in
    (f.fair.1, f.fair.0, f.room if1)

-- cut between two records
pub returns-then-into-eq0 : goal.returns-then-into-eq0
returns-then-into-eq0 c =
    let args = c.args in
    let place_of = c.place_of-at in
    let if1 = c.if-into-eq0.true in
    let put-cut = c.put_cut in
    second_clean args.k args.c.now place_of.result place_of.ensures args.out.now put-cut.new.out
    put-cut.result if1 put-cut.ensures.0 put-cut.ensures.1

-- the text's record ends within the content
pub overflow_add-next : goal.overflow_add-next
overflow_add-next c =
    let args = c.args in
    let pre = c.requires in
    let place_of = c.place_of-at in
    let width_at = c.width_at in
    omega (
      arith,
      ((second_fits args.k args.c.now place_of.result place_of.ensures args.out.now pre).inner
          width_at.result (omega arith) width_at.ensures).next_fit,
    )

-- the text begins behind its length
pub overflow_add-s : goal.overflow_add-s
overflow_add-s c =
    let args = c.args in
    let pre = c.requires in
    let place_of = c.place_of-at in
    let width_at = c.width_at in
    let i = (second_fits args.k args.c.now place_of.result place_of.ensures args.out.now pre).inner
    width_at.result (omega arith) width_at.ensures in
    omega (arith, i.next_fit, i.text_fit)

-- and goes on behind the cut
pub overflow_add-s-2 : goal.overflow_add-s-2
overflow_add-s-2 c =
    let args = c.args in
    let pre = c.requires in
    let place_of = c.place_of-at in
    let width_at = c.width_at in
    let i = (second_fits args.k args.c.now place_of.result place_of.ensures args.out.now pre).inner
    width_at.result (omega arith) width_at.ensures in
    omega (arith, i.next_fit, i.text_fit)

-- `&c[s..next]`
pub slice_bounds-put_text-count : goal.slice_bounds-put_text-count
slice_bounds-put_text-count c =
    let args = c.args in
    let pre = c.requires in
    let place_of = c.place_of-at in
    let width_at = c.width_at in
    ((second_fits args.k args.c.now place_of.result place_of.ensures args.out.now pre).inner width_at.result
    (omega arith) width_at.ensures).text_fit

-- the same
pub slice_bounds-put_text-start : goal.slice_bounds-put_text-start
slice_bounds-put_text-start c =
    let args = c.args in
    let pre = c.requires in
    let place_of = c.place_of-at in
    let width_at = c.width_at in
    let i = (second_fits args.k args.c.now place_of.result place_of.ensures args.out.now pre).inner
    width_at.result (omega arith) width_at.ensures in
    omega (arith, i.next_fit, i.text_fit)

-- the same
pub slice_bounds-put_text-end : goal.slice_bounds-put_text-end
slice_bounds-put_text-end c =
    let args = c.args in
    let pre = c.requires in
    let place_of = c.place_of-at in
    let width_at = c.width_at in
    let i = (second_fits args.k args.c.now place_of.result place_of.ensures args.out.now pre).inner
    width_at.result (omega arith) width_at.ensures in
    omega (arith, i.next_fit, i.text_fit)

-- the text is short, and there is room
pub put_text-n-requires : goal.put_text-n-requires
put_text-n-requires c =
    let args = c.args in
    let pre = c.requires in
    let place_of = c.place_of-at in
    let width_at = c.width_at in
    let i = (second_fits args.k args.c.now place_of.result place_of.ensures args.out.now pre).inner
    width_at.result (omega arith) width_at.ensures in
    (i.text_small, omega (arith, i.room))

-- `&mut out[n..]`
pub slice_bounds-put_cut-count-2 : goal.slice_bounds-put_cut-count-2
slice_bounds-put_cut-count-2 c =
    let args = c.args in
    let pre = c.requires in
    let place_of = c.place_of-at in
    let width_at = c.width_at in
    let put-text = c.put_text-n in
    omega (
      arith,
      ((second_fits args.k args.c.now place_of.result place_of.ensures args.out.now pre).inner
          width_at.result (omega arith) width_at.ensures).room,
      put-text.ensures.0,
    )

-- the same
pub slice_bounds-put_cut-start-2 : goal.slice_bounds-put_cut-start-2
slice_bounds-put_cut-start-2 c =
    let args = c.args in
    let pre = c.requires in
    let place_of = c.place_of-at in
    let width_at = c.width_at in
    let put-text = c.put_text-n in
    omega (
      arith,
      ((second_fits args.k args.c.now place_of.result place_of.ensures args.out.now pre).inner
          width_at.result (omega arith) width_at.ensures).room,
      put-text.ensures.0,
    )

-- `&c[next..]`
pub slice_bounds-put_cut-count-3 : goal.slice_bounds-put_cut-count-3
slice_bounds-put_cut-count-3 c =
    let args = c.args in
    let pre = c.requires in
    let place_of = c.place_of-at in
    let width_at = c.width_at in
    ((second_fits args.k args.c.now place_of.result place_of.ensures args.out.now pre).inner width_at.result
    (omega arith) width_at.ensures).next_fit

-- the same
pub slice_bounds-put_cut-start-3 : goal.slice_bounds-put_cut-start-3
slice_bounds-put_cut-start-3 c =
    let args = c.args in
    let pre = c.requires in
    let place_of = c.place_of-at in
    let width_at = c.width_at in
    omega (
      arith,
      ((second_fits args.k args.c.now place_of.result place_of.ensures args.out.now pre).inner
          width_at.result (omega arith) width_at.ensures).next_fit,
    )

-- `&c[..at]`
pub slice_bounds-put_cut-end-4 : goal.slice_bounds-put_cut-end-4
slice_bounds-put_cut-end-4 c =
    let args = c.args in
    let pre = c.requires in
    let place_of = c.place_of-at in
    sym (second_fits args.k args.c.now place_of.result place_of.ensures args.out.now pre).long

-- both are contents, and there is room
pub put_cut-m-requires : goal.put_cut-m-requires
put_cut-m-requires c =
    let args = c.args in
    let pre = c.requires in
    let place_of = c.place_of-at in
    let width_at = c.width_at in
    let put-text = c.put_text-n in
    let i = (second_fits args.k args.c.now place_of.result place_of.ensures args.out.now pre).inner
    width_at.result (omega arith) width_at.ensures in (
      i.rest_fair,
      (second_fits args.k args.c.now place_of.result place_of.ensures args.out.now pre).fair.0,
      tail_room put-text.new.out put-text.result _ (omega (arith, i.room, put-text.ensures.0)),
    )

-- the sum is within the output
pub overflow_add-result : goal.overflow_add-result
overflow_add-result c =
    let args = c.args in
    let pre = c.requires in
    let place_of = c.place_of-at in
    let width_at = c.width_at in
    let put-text = c.put_text-n in
    let put-cut2 = c.put_cut-m in
    omega (
      arith,
      ((second_fits args.k args.c.now place_of.result place_of.ensures args.out.now pre).inner
          width_at.result (omega arith) width_at.ensures).room,
      put-text.ensures.0,
      put-cut2.ensures.0,
    )

-- cut inside a text
pub returns : goal.returns
returns c =
    let args = c.args in
    let place_of = c.place_of-at in
    let width_at = c.width_at in
    let put-text = c.put_text-n in
    let put-cut2 = c.put_cut-m in
    second_inner args.k args.c.now place_of.result place_of.ensures width_at.result args.out.now
    put-text.new.out put-cut2.new.out put-text.result put-cut2.result
    (omega arith) width_at.ensures put-text.ensures.0 put-cut2.ensures.0 put-text.ensures.1 put-cut2.ensures.1
