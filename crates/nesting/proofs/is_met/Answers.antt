use Rattle.nesting.proofs.ScanLaws.{scan_start, scan_stop, scan_room, scan_none, scan_met, scan_further}
use mathlib.Core.Path.{sym, ◌∙◌}
use lib.ListN.{length-set}
use native.Mathlib.Omega.{arith}
use Rattle.nesting.proofs.is_met.Goals as goal

-- the loop's start
pub loop-j-init : goal.loop-j-init
loop-j-init c =
    let args = c.args in
    scan_start args.keys.now args.back args.i args.stack.now c.requires.2

-- key_away(keys, back, i, j)
pub key_away-k-requires : goal.key_away-k-requires
key_away-k-requires c =
    let pre = c.requires in
    (pre.0, omega (arith, c.loop-j-test.true, c.steps_away-n.ensures))

-- depth - 1
pub overflow_sub-x : goal.overflow_sub-x
overflow_sub-x c = omega (arith, c.loop-j.invariant.some_open)

-- stack[depth - 1]
pub offset_bounds-stack-depth : goal.offset_bounds-stack-depth
offset_bounds-stack-depth c =
    let pre = c.requires in
    let steps-away = c.steps_away-n in
    let loop = c.loop-j in
    let inv = loop.invariant in
    omega (
      arith,
      inv.some_open,
      inv.sized,
      scan_room inv pre.0 pre.1 (omega (arith, c.loop-j-test.true, steps-away.ensures)),
    )

-- stack[depth - 1]
pub bounds-stack-depth : goal.bounds-stack-depth
bounds-stack-depth c =
    let pre = c.requires in
    let steps-away = c.steps_away-n in
    let loop = c.loop-j in
    omega (
      arith,
      loop.invariant.some_open,
      scan_room loop.invariant pre.0 pre.1
          (omega (arith, c.loop-j-test.true, steps-away.ensures)),
    )

-- return false
pub returns-then-is_apart : goal.returns-then-is_apart
returns-then-is_apart c =
    let pre = c.requires in
    let steps-away = c.steps_away-n in
    let loop = c.loop-j in
    let loop-test = c.loop-j-test in
    let key-away = c.key_away-k in (
      scan_none loop.invariant pre.0 pre.1 (omega (arith, loop-test.true, steps-away.ensures))
          key-away.ensures (sym c.is_apart.ensures ∙ c.if-is_apart.true),
      loop.invariant.sized,
    )

-- stack[depth] = k
pub offset_bounds-stack-depth-in-loop-j : goal.offset_bounds-stack-depth-in-loop-j
offset_bounds-stack-depth-in-loop-j c =
    let pre = c.requires in
    let steps-away = c.steps_away-n in
    let loop = c.loop-j in
    let loop-test = c.loop-j-test in
    omega (
      arith,
      loop.invariant.sized,
      scan_room loop.invariant pre.0 pre.1 (omega (arith, loop-test.true, steps-away.ensures)),
    )

-- stack[depth] = k
pub bounds-stack-depth-in-loop-j : goal.bounds-stack-depth-in-loop-j
bounds-stack-depth-in-loop-j c =
    let pre = c.requires in
    let steps-away = c.steps_away-n in
    let loop = c.loop-j in
    let loop-test = c.loop-j-test in
    scan_room loop.invariant pre.0 pre.1 (omega (arith, loop-test.true, steps-away.ensures))

-- depth_after(x, k, depth)
pub depth_after-depth-requires : goal.depth_after-depth-requires
depth_after-depth-requires c =
    let pre = c.requires in
    let steps-away = c.steps_away-n in
    let loop = c.loop-j in
    let inv = loop.invariant in
    let loop-test = c.loop-j-test in (
      inv.some_open,
      omega (
        arith,
        inv.sized,
        scan_room inv pre.0 pre.1 (omega (arith, loop-test.true, steps-away.ensures)),
      ),
    )

-- return true
pub shape_of-stack-then-depth-eq0 : goal.shape_of-stack-then-depth-eq0
shape_of-stack-then-depth-eq0 c =
    let pre = c.requires in
    let loop = c.loop-j in
    let key-away = c.key_away-k in
    length-set loop.stack loop.depth key-away.result ∙ loop.invariant.sized ∙ sym pre.2

-- return true
pub returns-then-depth-eq0 : goal.returns-then-depth-eq0
returns-then-depth-eq0 c =
    let pre = c.requires in
    let steps-away = c.steps_away-n in
    let loop = c.loop-j in
    let loop-test = c.loop-j-test in
    let key-away = c.key_away-k in
    let is-apart = c.is_apart in (
      scan_met loop.invariant pre.0 pre.1 (omega (arith, loop-test.true, steps-away.ensures))
          key-away.ensures (sym is-apart.ensures ∙ c.if-is_apart.false)
          c.depth_after-depth.ensures c.if-depth-eq0.true,
      simp length-set loop.invariant.sized,
    )

-- the loop's step
pub loop-j-preserved : goal.loop-j-preserved
loop-j-preserved c =
    let pre = c.requires in
    let steps-away = c.steps_away-n in
    let loop = c.loop-j in
    let loop-test = c.loop-j-test in
    let key-away = c.key_away-k in
    let is-apart = c.is_apart in
    scan_further loop.invariant pre.0 pre.1 (omega (arith, loop-test.true, steps-away.ensures))
    key-away.ensures (sym is-apart.ensures ∙ c.if-is_apart.false) c.depth_after-depth.ensures
    c.if-depth-eq0.false

-- false
pub returns : goal.returns
returns c =
    let pre = c.requires in
    let loop = c.loop-j in (
      scan_stop loop.invariant pre.0 pre.1
          (omega (arith, c.loop-j-test.false, c.steps_away-n.ensures)),
      loop.invariant.sized,
    )
