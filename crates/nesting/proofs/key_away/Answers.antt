use lib.ListN.{length}
use Prim.Native.Nat.{◌<◌, ◌-◌, ◌+◌}
use native.Mathlib.Omega.{arith}
use Rattle.nesting.proofs.key_away.Goals as goal

-- j + 1
pub overflow_add-result : goal.overflow_add-result
overflow_add-result c =
    let h : c.args.j < c.args.i = rw c.if-back.true at c.requires.1 in
    omega arith

-- i - (j + 1)
pub overflow_sub-result : goal.overflow_sub-result
overflow_sub-result c =
    let h : c.args.j < c.args.i = rw c.if-back.true at c.requires.1 in
    omega arith

-- return keys[i - (j + 1)]
pub returns-then-back : goal.returns-then-back
returns-then-back c = simp c.if-back.true

-- i + 1 + j
pub overflow_add-result-3 : goal.overflow_add-result-3
overflow_add-result-3 c =
    let args = c.args in
    let h : args.j < length args.keys.now - (args.i + 1) = rw c.if-back.false at c.requires.1 in
    omega arith

-- keys[i + 1 + j]
pub offset_bounds-keys-i-2 : goal.offset_bounds-keys-i-2
offset_bounds-keys-i-2 c =
    let args = c.args in
    let h : args.j < length args.keys.now - (args.i + 1) = rw c.if-back.false at c.requires.1 in
    omega arith

-- keys[i + 1 + j]
pub bounds-keys-i-2 : goal.bounds-keys-i-2
bounds-keys-i-2 c =
    let args = c.args in
    let h : args.j < length args.keys.now - (args.i + 1) =
    rw c.if-back.false at c.requires.1 in
    omega arith

-- keys[i + 1 + j]
pub returns : goal.returns
returns c = simp c.if-back.false
