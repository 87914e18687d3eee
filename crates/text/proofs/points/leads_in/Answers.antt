use mathlib.Core.Path.{ap, ◌∙◌, sym}
use Prim.Native.Nat.{ℕ, ◌+◌, ◌-◌}
use native.Mathlib.Omega.{arith}
use lib.ListN.{drop}
use Rattle.text.specs.Points.{leads}
use Rattle.text.proofs.PointLaws.{leads_start, leads_on, leads_end}
use Rattle.text.proofs.points.leads_in.Goals as goal

-- nothing is counted yet
pub loop-i-init : goal.loop-i-init
loop-i-init c =
    let args = c.args in
    (omega arith, omega arith, leads_start args.t.now args.at)

-- `n += lead(t[at + i])`, `i += 1`
pub loop-i-preserved : goal.loop-i-preserved
loop-i-preserved c =
    let args = c.args in
    let loop = c.loop-i in
    let byte = c.lead-n.ensures in
    let more = leads_on args.t.now args.at loop.i loop.n (leads 64 (drop args.at args.t.now))
    c.loop-i-test.true loop.invariant.2 in (
      omega arith,
      omega (arith, byte),
      more
          ∙ ap (λ (b : ℕ). loop.n + b + leads (64 - (loop.i + 1)) (drop (args.at + (loop.i + 1)) args.t.now))
          (sym byte.0),
    )

-- `usize::from(n)`
pub returns : goal.returns
returns c =
    let args = c.args in
    let loop = c.loop-i in
    c.from.ensures
    ∙ leads_end args.t.now args.at loop.i loop.n (leads 64 (drop args.at args.t.now))
    c.loop-i-test.false loop.invariant.2
