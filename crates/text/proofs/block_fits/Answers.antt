use native.Mathlib.Omega.{arith}
use mathlib.Core.Path.{◌∙◌}
use Prim.Native.Nat.{◌+◌}
use Rattle.text.specs.Blocks.{pair_at}
use Rattle.text.proofs.BlockLaws.{fits_start, fits_on, fits_end}
use Rattle.text.proofs.PairLaws.{pair_at_lem}
use Rattle.text.proofs.block_fits.Goals as goal

-- the loop's start
pub loop-i-init : goal.loop-i-init
loop-i-init c = (omega arith, fits_start pair_at c.args.t.now c.args.at 16)

-- the loop's step
pub loop-i-preserved : goal.loop-i-preserved
loop-i-preserved c =
    let args = c.args in
    let t = args.t.now in
    let at₀ = args.at in
    let loop = c.loop-i in
    let loop-test = c.loop-i-test in (
      omega arith,
      fits_on pair_at t at₀ 16 loop.i _ loop.ok c.pair_fits-ok.result loop-test.true loop.invariant.1
          (c.pair_fits-ok.ensures ∙ pair_at_lem (at₀ + loop.i) t),
    )

-- ok
pub returns : goal.returns
returns c =
    let args = c.args in
    let loop = c.loop-i in
    fits_end pair_at args.t.now args.at 16 loop.i _ loop.ok c.loop-i-test.false loop.invariant.1
