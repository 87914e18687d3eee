use Rattle.granted_view.proofs.HeadLaws.{some_most, shown_most, shown_long, shown_put}
use native.Mathlib.Omega.{arith}
use Rattle.granted_view.proofs.put_head.Goals as goal

-- let n = heads::put_with_state(&mut shown, head, b'I')
pub put_with_state-n-requires : goal.put_with_state-n-requires
put_with_state-n-requires c =
    let head = c.args.head.now in
    let some = c.requires in
    (some, omega (arith, some_most head some))

-- &shown[..n]
pub slice_bounds-shown-end : goal.slice_bounds-shown-end
slice_bounds-shown-end c =
    let state = c.put_with_state-n in
    let head = c.args.head.now in
    omega (arith, shown_most head c.requires _ _ state.result state.new.out state.ensures)

-- &shown[..n]
pub slice_bounds-put-end : goal.slice_bounds-put-end
slice_bounds-put-end c =
    let state = c.put_with_state-n in
    let head = c.args.head.now in
    shown_long head c.requires _ _ state.result state.new.out state.ensures

-- draft.put(&shown[..n])
pub returns : goal.returns
returns c =
    let put = c.put in
    let state = c.put_with_state-n in
    let args = c.args in
    shown_put args.head.now _ state.result state.new.out state.ensures _ _ put.ensures
