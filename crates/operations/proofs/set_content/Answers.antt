use Prim.Native.Nat.{◌+◌, ◌-◌}
use mathlib.Core.Path.{◌≡◌}
use native.Mathlib.Omega.{arith}
use Rattle.operations.proofs.set_content.Goals as goal

-- set_target::set_target(table, part, state, &s[CONTENT_AT..end], out)
pub returns : goal.returns
returns c =
    let n = c.args.n in
    let z : 7 + c.from-end.result - 7 ≡ n = omega (arith, c.from-end.ensures) in
    rw z at c.set_target.ensures
