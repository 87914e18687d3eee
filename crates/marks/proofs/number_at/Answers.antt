use Prim.Native.Nat.{ℕ, suc, ◌+◌, ◌*◌}
use mathlib.Core.Path.{◌≡◌, ap, ◌∙◌}
use native.Mathlib.Omega.{arith}
use lib.ListN.{get_or}
use Rattle.xliff.specs.Bytes.{two_at}
use Rattle.marks.proofs.number_at.Goals as goal

-- the two bytes
pub returns : goal.returns
unfolding two_at
returns c =
    let args = c.args in
    let s = args.s.now in
    let at = args.at in
    let next : at + 1 ≡ suc at = omega arith in
    c.two_bytes.ensures.0 ∙ ap (λ (k : ℕ). get_or s at 0 * 256 + get_or s k 0) next
