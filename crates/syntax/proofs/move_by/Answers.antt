use Prim.Native.Nat.{ℕ, ◌-◌}
use mathlib.Core.Path.{◌≡◌, refl, sym, ◌∙◌, ap}
use mathlib.Core.Bool.{Bool, true, false, cond}
use mir.Val.{bool_byte}
use native.Mathlib.Omega.{arith}
use Rattle.std.specs.Prelude.{Err}
use Rattle.std.proofs.lemmas.Result.{err_from_is_err_and}
use Rattle.syntax.specs.Stages.{move_of}
use Rattle.syntax.proofs.move_by.Goals as goal

-- one less, where a part begins
less_if : (part : Bool) (n : ℕ) → n - bool_byte part ≡ cond part (n - 1) n
less_if true n = refl
less_if false n = omega arith

-- return Err(4)
pub returns-then-s-part : goal.returns-then-s-part
unfolding move_of
returns-then-s-part c =
    let is_part = c.is_part-part in
    simp (← is_part.ensures, c.if-s-part.true)

-- the number of the step
pub returns-in_err-stage : goal.returns-in_err-stage
unfolding move_of
returns-in_err-stage c =
    let step = sym c.step_by.ensures ∙ c.in_err-stage.was in
    let gone = err_from_is_err_and c.from_residual.result c.from_residual.ensures.1 in
    rw (← c.is_part-part.ensures, c.if-s-part.false, step) (gone.1 ∙ ap Err gone.2)

-- Ok(State { .. })
pub returns : goal.returns
unfolding move_of
returns c =
    let step = sym c.step_by.ensures ∙ c.in_ok-stage.was in
    let parts = c.saturating_sub-2.ensures ∙ ap (λ (n : ℕ). c.args.s.parts - n) c.from.ensures
    ∙ less_if c.is_part-part.result c.args.s.parts in
    rw (← c.is_part-part.ensures, c.if-s-part.false, step, c.saturating_sub.ensures, parts) refl
