use Rattle.writer.proofs.PieceLaws.{lead_suc, lead_full}
use lib.ListN.{get_or, set, length-set}
use native.Mathlib.Omega.{arith}
use mathlib.Core.List.{List}
use mathlib.Core.Path.{refl, ◌∙◌, ap}
use Prim.Native.Nat.{ℕ}
use Rattle.writer.proofs.put.Goals as goal

-- before the first byte
pub loop-i-init : goal.loop-i-init
loop-i-init c = (refl, refl)

-- out[i] = bytes[i]
pub loop-i-preserved : goal.loop-i-preserved
loop-i-preserved c =
    let args = c.args in
    let bytes = args.bytes.now in
    let loop = c.loop-i in
    let i = loop.i in (
      simp length-set loop.invariant.0,
      ap (λ (l : List ℕ). set l i (get_or bytes i 0)) loop.invariant.1
          ∙ lead_suc bytes args.out.now i (omega arith) (omega arith),
    )

-- the bytes copied, and their length
pub returns : goal.returns
returns c =
    let args = c.args in
    let loop = c.loop-i in
    (refl, loop.invariant.1 ∙ lead_full args.bytes.now args.out.now loop.i (omega arith))
