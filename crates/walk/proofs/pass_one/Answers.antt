use mathlib.Core.Path.{sym, ◌∙◌}
use native.Mathlib.Omega.{arith}
use Rattle.walk.proofs.PlaceLaws.{one_least, text_behind, met_text, pass_item_lem, pass_some}
use Rattle.xliff.proofs.lists.Slices.{tail_is}
use Rattle.walk.proofs.pass_one.Goals as goal

-- `marks::marked_by(t, b"TX")`: the mark is there
pub marked_by-requires : goal.marked_by-requires
marked_by-requires c =
    let args = c.args in
    let pre = c.requires in
    omega (arith, one_least args.t.now pre)

-- `&t[4..]`: the text begins within the record
pub slice_bounds-pass_points-count : goal.slice_bounds-pass_points-count
slice_bounds-pass_points-count c =
    let args = c.args in
    let pre = c.requires in
    omega (arith, one_least args.t.now pre)

-- the same
pub slice_bounds-pass_points-start : goal.slice_bounds-pass_points-start
slice_bounds-pass_points-start c =
    let args = c.args in
    let pre = c.requires in
    omega (arith, one_least args.t.now pre)

-- `text::points::pass_points(&t[4..], k)`: a text stands there
pub pass_points-requires : goal.pass_points-requires
pass_points-requires c =
    let t = c.args.t.now in
    let marked_by = c.marked_by in
    let if1 = c.if-marked_by.true in
    rw (tail_is 4 t) (text_behind t c.requires (sym marked_by.ensures ∙ if1))

-- `t.len() - 4`
pub overflow_sub-t : goal.overflow_sub-t
overflow_sub-t c =
    let args = c.args in
    let pre = c.requires in
    omega (arith, one_least args.t.now pre)

-- a text
pub returns-then-marked_by : goal.returns-then-marked_by
returns-then-marked_by c =
    let args = c.args in
    let marked_by = c.marked_by in
    let if1 = c.if-marked_by.true in
    let pass-points = c.pass_points in
    let pass-text = c.pass_text in
    λ r g e.
    pass-text.ensures
    ∙ met_text r args.t.now args.k pass-points.result g e (sym marked_by.ensures ∙ if1)
    (simp tail_is at pass-points.ensures)

-- the item is the one sought
pub returns-then-k-eq0 : goal.returns-then-k-eq0
returns-then-k-eq0 c =
    let args = c.args in
    let marked_by = c.marked_by in
    let if1 = c.if-marked_by.false in
    let if2 = c.if-k-eq0.true in
    λ r g e. sym (pass_item_lem r args.t.now args.k g e (sym marked_by.ensures ∙ if1) ∙ simp if2)

-- the item is passed over
pub returns : goal.returns
returns c =
    let args = c.args in
    let marked_by = c.marked_by in
    let if1 = c.if-marked_by.false in
    λ r g e. sym (pass_item_lem r args.t.now args.k g e (sym marked_by.ensures ∙ if1)
    ∙ pass_some args.k (omega arith))
