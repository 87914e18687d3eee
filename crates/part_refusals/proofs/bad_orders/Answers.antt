use Prim.Native.Nat.{ℕ}
use mathlib.Core.Path.{refl, sym, ap}
use native.Mathlib.Numerals.{add-one}
use Rattle.std.specs.Prelude.{Option}
use Rattle.part_refusals.proofs.ClosedLaws.{apart, bad_orders_are}
use Rattle.part_refusals.proofs.bad_orders.Goals as goal

-- let Some(first) = x.order else { return false; }
pub returns-in_default : goal.returns-in_default
returns-in_default c =
    let args = c.args in
    bad_orders_are args.x args.y _ (sym (ap (λ (o : Option ℕ). apart o args.y.order) c.in_default.is))

-- let Some(second) = y.order else { return false; }
pub returns-in_default-order : goal.returns-in_default-order
returns-in_default-order c =
    let args = c.args in
    bad_orders_are args.x args.y _ (rw (c.in-Some.is, c.in_default-order.is) refl)

-- u32::from(second) != u32::from(first) + 1
pub returns : goal.returns
returns c =
    let args = c.args in
    bad_orders_are args.x args.y _
    (rw (c.from.ensures, c.from-2.ensures, add-one c.in-Some.first, c.in-Some.is, c.in-Some-order.is) refl)
