use native.Mathlib.Omega.{arith}
use lib.ListN.{length}
use lib.Seq.{get_or-drop}
use borrow.Author.Tests.{le-ltb, lt-ltb}
use Rattle.codes.proofs.chains.goes_on.Goals as goal

-- `c.len() <= at`
pub returns-then-c-at : goal.returns-then-c-at
returns-then-c-at c =
    let args = c.args in
    let if1 = c.if-c-at.true in
    simp (le-ltb args.at (length args.c.now) if1)

-- `at + super::fixed::CAN_REORDER`
pub overflow_add-result : goal.overflow_add-result
overflow_add-result c =
    let if1 = c.if-c-at.false in
    omega (arith, c.requires if1)

-- `c[at + super::fixed::CAN_REORDER]`
pub bounds-c-at : goal.bounds-c-at
bounds-c-at c =
    let if1 = c.if-c-at.false in
    omega (arith, c.requires if1)

-- whether it is an N
pub returns : goal.returns
returns c =
    let args = c.args in
    let if1 = c.if-c-at.false in
    simp (lt-ltb args.at (length args.c.now) if1, get_or-drop args.at args.c.now 11 0)
