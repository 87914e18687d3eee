use mathlib.Core.Path.{sym}
use native.Mathlib.Omega.{arith}
use Rattle.xliff.proofs.lists.Slices.{tail_room}
use Rattle.cut.proofs.WriteLaws.{first_fits, first_clean, first_inner}
use Rattle.cut.proofs.put_first.Goals as goal

-- `&c[..at]`
pub slice_bounds-put_cut-end : goal.slice_bounds-put_cut-end
slice_bounds-put_cut-end c =
    let args = c.args in
    let pre = c.requires in
    let place_of = c.place_of-at in
    sym (first_fits args.k args.c.now place_of.result place_of.ensures args.out.now pre).long

-- `&c[at..]`
pub slice_bounds-put_cut-count : goal.slice_bounds-put_cut-count
slice_bounds-put_cut-count c =
    let args = c.args in
    let pre = c.requires in
    let place_of = c.place_of-at in
    (first_fits args.k args.c.now place_of.result place_of.ensures args.out.now pre).fit

-- the same
pub slice_bounds-put_cut-start : goal.slice_bounds-put_cut-start
slice_bounds-put_cut-start c =
    let args = c.args in
    let pre = c.requires in
    let place_of = c.place_of-at in
    omega (arith, (first_fits args.k args.c.now place_of.result place_of.ensures args.out.now pre).fit)

-- both are contents, and there is room
pub put_cut-n-requires : goal.put_cut-n-requires
put_cut-n-requires c =
    let args = c.args in
    let pre = c.requires in
    let place_of = c.place_of-at in
    let f = first_fits args.k args.c.now place_of.result place_of.ensures args.out.now pre in
    (f.fair.0, f.fair.1, omega (arith, f.long, f.room))

-- cut between two records
pub returns-then-into-eq0 : goal.returns-then-into-eq0
returns-then-into-eq0 c =
    let args = c.args in
    let place_of = c.place_of-at in
    let put-cut = c.put_cut-n in
    let if1 = c.if-into-eq0.true in
    first_clean args.k args.c.now place_of.result place_of.ensures args.out.now put-cut.new.out
    put-cut.result if1 put-cut.ensures.0 put-cut.ensures.1

-- the text begins behind its length
pub overflow_add-s : goal.overflow_add-s
overflow_add-s c =
    let args = c.args in
    let pre = c.requires in
    let place_of = c.place_of-at in
    let f = first_fits args.k args.c.now place_of.result place_of.ensures args.out.now pre in
    omega (arith, f.text_fit (omega arith))

-- the text's first bytes end within the content
pub overflow_add-e : goal.overflow_add-e
overflow_add-e c =
    let args = c.args in
    let pre = c.requires in
    let place_of = c.place_of-at in
    let f = first_fits args.k args.c.now place_of.result place_of.ensures args.out.now pre in
    omega (arith, f.text_fit (omega arith))

-- `&mut out[n..]`
pub slice_bounds-put_text-count : goal.slice_bounds-put_text-count
slice_bounds-put_text-count c =
    let args = c.args in
    let pre = c.requires in
    let place_of = c.place_of-at in
    let put-cut = c.put_cut-n in
    let f = first_fits args.k args.c.now place_of.result place_of.ensures args.out.now pre in
    omega (arith, f.long, f.room, put-cut.ensures.0)

-- the same
pub slice_bounds-put_text-start : goal.slice_bounds-put_text-start
slice_bounds-put_text-start c =
    let args = c.args in
    let pre = c.requires in
    let place_of = c.place_of-at in
    let put-cut = c.put_cut-n in
    let f = first_fits args.k args.c.now place_of.result place_of.ensures args.out.now pre in
    omega (arith, f.long, f.room, put-cut.ensures.0)

-- `&c[s..e]`
pub slice_bounds-put_text-end-2 : goal.slice_bounds-put_text-end-2
slice_bounds-put_text-end-2 c =
    let args = c.args in
    let pre = c.requires in
    let place_of = c.place_of-at in
    let f = first_fits args.k args.c.now place_of.result place_of.ensures args.out.now pre in
    omega (arith, f.text_fit (omega arith))

-- the text is short, and there is room
pub put_text-m-requires : goal.put_text-m-requires
put_text-m-requires c =
    let args = c.args in
    let pre = c.requires in
    let place_of = c.place_of-at in
    let put-cut = c.put_cut-n in
    let f = first_fits args.k args.c.now place_of.result place_of.ensures args.out.now pre in
    let long = f.text_long (omega arith) in (
      omega (arith, long, f.text_small (omega arith)),
      tail_room put-cut.new.out put-cut.result _ (omega (arith, long, f.long, f.text_room (omega arith), put-cut.ensures.0)),
    )

-- the sum is within the content
pub overflow_add-result : goal.overflow_add-result
overflow_add-result c =
    let args = c.args in
    let pre = c.requires in
    let place_of = c.place_of-at in
    let put-cut = c.put_cut-n in
    let if1 = c.if-into-eq0.false in
    let put-text = c.put_text-m in
    let f = first_fits args.k args.c.now place_of.result place_of.ensures args.out.now pre in
    omega (arith, f.long, f.text_long (omega (arith, if1)), f.text_fit (omega (arith, if1)), put-cut.ensures.0, put-text.ensures.0)

-- cut inside a text
pub returns : goal.returns
returns c =
    let args = c.args in
    let place_of = c.place_of-at in
    let put-cut = c.put_cut-n in
    let if1 = c.if-into-eq0.false in
    let put-text = c.put_text-m in
    first_inner args.k args.c.now place_of.result place_of.ensures args.out.now put-cut.new.out
    put-text.new.out put-cut.result put-text.result
    (omega (arith, if1)) put-cut.ensures.0 put-cut.ensures.1 put-text.ensures.0 put-text.ensures.1
