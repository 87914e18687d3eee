use native.Mathlib.Omega.{arith}
use lib.ListN.{length-set}
use mathlib.Core.Path.{◌∙◌}
use Prim.Native.Nat.{ℕ}
use Rattle.overlap.proofs.RangeLaws.{set_filled}
use Rattle.overlap.proofs.fill_by.Goals as goal

-- out[i] = number(i)
pub loop-i-preserved : goal.loop-i-preserved
loop-i-preserved g c =
    let l = c.loop-i in (
      length-set {A = ℕ} _ _ _ ∙ l.invariant.0,
      set_filled (λ k x. goal.F-post g c.args.number k x) l.out l.i c.number.result
          (omega (arith, c.loop-i-test.true, c.requires.within, l.invariant.0)) l.invariant.1 c.number.ensures,
    )
