use mathlib.Core.Path.{ap, ◌∙◌, sym}
use Prim.Native.Nat.{ℕ, ◌+◌, ◌-◌}
use native.Mathlib.Omega.{arith}
use lib.ListN.{drop}
use Rattle.text.specs.Points.{further, sought}
use Rattle.text.proofs.PointLaws.{further_zero, sought_on}
use Rattle.text.proofs.points.pass_blocks.Goals as goal

pub loop-at-init : goal.loop-at-init
loop-at-init c = let args = c.args in (omega arith, further_zero (sought args.t.now args.k))

-- `left < n`: the code point begins in this block
pub returns-then-left-n : goal.returns-then-left-n
returns-then-left-n c = c.loop-at.invariant

-- `at += 64`, `left -= n`
pub loop-at-preserved : goal.loop-at-preserved
loop-at-preserved c =
    let args = c.args in
    let loop = c.loop-at in
    let count = c.leads_in-n.ensures in (
      omega arith,
      sought_on args.t.now loop.at loop.left 64 _ (omega arith) (omega (arith, count)) loop.invariant.1
          ∙ ap (λ (n : ℕ). further (loop.at + 64) (sought (drop (loop.at + 64) args.t.now) (loop.left - n)))
          (sym count),
    )

-- fewer than 64 bytes are left
pub returns : goal.returns
returns c = c.loop-at.invariant
