use Rattle.text.proofs.PairLaws.{pair_past}
use native.Mathlib.Omega.{arith}
use Rattle.text.proofs.pass_some.Goals as goal

-- return Some(at + 17)
pub returns-then-d : goal.returns-then-d
returns-then-d c =
    let args = c.args in
    let block-fits = c.block_fits in (
      omega arith,
      omega arith,
      pair_past args.t.now args.at block-fits.result _ (omega arith) block-fits.ensures
          c.if-b-block_fits.true c.if-d.true,
    )

-- return Some(at + 16)
pub returns-then-b-block_fits : goal.returns-then-b-block_fits
returns-then-b-block_fits c =
    let args = c.args in
    let block-fits = c.block_fits in (
      omega arith,
      omega arith,
      pair_past args.t.now args.at block-fits.result _ (omega arith) block-fits.ensures
          c.if-b-block_fits.true c.if-d.false,
    )
