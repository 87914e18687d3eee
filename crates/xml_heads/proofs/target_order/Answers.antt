use mathlib.Core.Path.{refl}
use native.Mathlib.Omega.{arith}
use Rattle.xliff.specs.Bytes.{among}
use Rattle.xml_elements.specs.Reading.{apart}
use Rattle.xml_heads.proofs.HeadLaws.{order_other, order_absent, order_there}
use Rattle.xml_heads.proofs.target_order.Goals as goal

-- slots[ORDER]
pub bounds-filled-1 : goal.bounds-filled-1
bounds-filled-1 c =
    omega (arith, c.args.filled.sized)

-- has_only(slots, count, &[ORDER]): none of them twice
pub has_only-requires : goal.has_only-requires
unfolding apart among
has_only-requires c = refl

-- other attributes: None
pub returns-then-not-has_only : goal.returns-then-not-has_only
returns-then-not-has_only c =
    let has-only = c.has_only in
    let args = c.args in
    λ position. order_other args.filled.slots.now args.filled.count has-only.result has-only.ensures position
    c.if-not-has_only.true-raw

-- return Some(None): no order is there
pub returns-then-filled-eq-ABSENT : goal.returns-then-filled-eq-ABSENT
returns-then-filled-eq-ABSENT c =
    let has-only = c.has_only in
    let args = c.args in
    λ position.
    order_absent args.filled.slots.now args.filled.count has-only.result has-only.ensures position
    c.if-not-has_only.false-raw
    c.if-filled-eq-ABSENT.true

-- no good order: None
pub returns-in_err-order : goal.returns-in_err-order
returns-in_err-order c =
    let has-only = c.has_only in
    let args = c.args in
    λ position.
    rw c.from_residual.ensures
    (order_there args.filled.slots.now args.filled.count has-only.result has-only.ensures position
    c.if-not-has_only.false-raw
    c.if-filled-eq-ABSENT.false _ c.in_err-order.ensures)

-- Some(Some(order))
pub returns : goal.returns
returns c =
    let has-only = c.has_only in
    let args = c.args in
    λ position.
    order_there args.filled.slots.now args.filled.count has-only.result has-only.ensures position
    c.if-not-has_only.false-raw
    c.if-filled-eq-ABSENT.false _ c.in_ok-order.ensures
