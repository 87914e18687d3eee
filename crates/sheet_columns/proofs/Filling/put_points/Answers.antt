use native.Mathlib.Omega.{arith}
use Rattle.sheet_columns.proofs.CursorLaws.{text_fits, text_here}
use Rattle.sheet_columns.proofs.StepLaws.{points_fit, points_filled}
use Rattle.sheet_columns.proofs.Filling.put_points.Goals as goal

-- let end = at + self.next.left
pub overflow_add-end : goal.overflow_add-end
overflow_add-end c =
    let (((xs, ahead), more), some, cells) = c.requires in
    omega (arith, text_fits c.args.c.now _ _ xs ahead)

-- &c[at..end]
pub slice_bounds-pass_points-end : goal.slice_bounds-pass_points-end
slice_bounds-pass_points-end c =
    let (((xs, ahead), more), some, cells) = c.requires in
    text_fits c.args.c.now _ _ xs ahead

-- text::points::pass_points(&c[at..end], self.room)
pub pass_points-points-requires : goal.pass_points-points-requires
pass_points-points-requires c =
    let (((xs, ahead), more), some, cells) = c.requires in
    text_here c.args.c.now _ _ xs ahead

-- let next = at + points.bytes
pub overflow_add-next : goal.overflow_add-next
overflow_add-next c =
    let points = c.pass_points-points in
    let (((xs, ahead), more), some, cells) = c.requires in
    let t = c.args.c.now in
    omega (arith, text_fits t _ _ xs ahead, points_fit t c.args.self.now points.result points.ensures xs ahead)

-- &c[at..next]
pub slice_bounds-put_text-end : goal.slice_bounds-put_text-end
slice_bounds-put_text-end c =
    let points = c.pass_points-points in
    let (((xs, ahead), more), some, cells) = c.requires in
    let t = c.args.c.now in
    omega (arith, text_fits t _ _ xs ahead, points_fit t c.args.self.now points.result points.ensures xs ahead)

-- end - next
pub overflow_sub-self : goal.overflow_sub-self
overflow_sub-self c =
    let points = c.pass_points-points in
    let (((xs, ahead), more), some, cells) = c.requires in
    omega (arith, points_fit c.args.c.now c.args.self.now points.result points.ensures xs ahead)

-- the points are written
pub returns : goal.returns
returns c =
    let points = c.pass_points-points in
    let (((xs, ahead), more), some, cells) = c.requires in
    points_filled c.args.c.now c.args.self.now points.result points.ensures more _ _ c.put_text.ensures xs ahead some cells
