use Rattle.join_orders.proofs.FallLaws.{both_fall, one_falls}
use Rattle.orders.proofs.WalkLaws.{few_parts}
use Rattle.std.specs.Prelude.{Option, is_some, ◌&&◌}
use Rattle.xliff.specs.Join as join
use Rattle.xliff.specs.Parse.{unit}
use Rattle.xliff.specs.Unit.{orders}
use native.Mathlib.Omega.{arith}
use mathlib.Core.Path.{refl, ◌∙◌, ap}
use Prim.Native.Nat.{ℕ}
use Rattle.join_orders.proofs.falls_above.Goals.{in_default-via-in-Some+in_default, in_default-via-in_default}
use Rattle.join_orders.proofs.falls_above.Goals as goal

-- (Some(first), Some(_)) => first
pub returns-in-Some-Some : goal.returns-in-Some-Some
returns-in-Some-Some c =
    let both = c.in-Some-Some in
    both_fall c.args.t.now c.args.x c.args.y both.first both.field-0-1 both.is-0 both.is-1

-- n as u16
pub overflow_cast-n : goal.overflow_cast-n
overflow_cast-n c =
    omega (arith, few_parts c.args.t.now c.requires, c.count_parts-n.ensures)

-- highest_unused(t, n as u16)
pub returns-in_default : goal.returns-in_default
returns-in_default c =
    let t = c.args.t.now in
    one_falls t c.args.x c.args.y c.highest_unused.result
    (elim c.in_default.branch [
      | in_default-via-in-Some+in_default w ↦ rw (w.in_default.is-0, w.in_default.is-1) refl
      | in_default-via-in_default w ↦ rw w.in_default.is-0 refl
    ])
    (c.highest_unused.ensures
    ∙ ap (λ (n : ℕ). join.highest_unused n (orders (unit t).parts)) c.count_parts-n.ensures)
