use Prim.Native.Nat.{ℕ, ◌≤◌, min}
use mathlib.Core.Path.{◌≡◌, refl, ap, sym, ◌∙◌}
use mathlib.Core.Bool.{Bool, true, false, cond}
use borrow.Table.Steps.{cases}
use borrow.Author.Tests.{ltb-true, ltb-false}
use lib.Dec.{ltb}
use Rattle.std.specs.Bool.{then_some}
use Rattle.std.specs.Prelude.{Some, None}
use Rattle.std.proofs.Math.Nat.{min-eq_left, min-eq_right}
use native.Mathlib.Omega.{arith}
use Rattle.answers.proofs.lower_if.Goals as goal

some_if : (b : Bool) (at : ℕ) → then_some b at ≡ cond b (Some at) None
some_if true at = refl
some_if false at = refl

lower_of : (at a : ℕ) → min at a ≡ cond (ltb at a) at a
lower_of at a = cases (ltb at a)
    (λ h. rw h (min-eq_left (let z : at ≤ a = omega (arith, ltb-true _ _ h) in z)))
    (λ h. rw h (min-eq_right (ltb-false _ _ h)))

-- `bad.then_some(at)`
pub returns-in-None : goal.returns-in-None
returns-in-None c = rw c.in-None.is (c.then_some.ensures ∙ some_if c.args.bad c.args.at)

-- `at.min(a)`
pub returns-then-bad : goal.returns-then-bad
returns-then-bad c =
    rw (c.in-Some.is, c.if-bad.true) (ap Some (c.min.ensures ∙ lower_of c.args.at c.in-Some.a))

-- `a`
pub returns-else-bad : goal.returns-else-bad
returns-else-bad c = rw (c.in-Some.is, c.if-bad.false) refl
