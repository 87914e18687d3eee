use Rattle.text.proofs.TripleLaws.{triple_past}
use native.Mathlib.Omega.{arith}
use mathlib.Core.Path.{refl}
use Rattle.text.proofs.pass_wide.Goals as goal

-- return Some(at + 18)
pub returns-then-e : goal.returns-then-e
returns-then-e c =
    let args = c.args in
    let opens-block = c.opens_block in
    let wide-block-fits = c.wide_block_fits in
    let if1 = c.if-opens_block-wide_block_fits in (
      omega arith,
      omega arith,
      triple_past args.t.now args.at opens-block.result wide-block-fits.result _ _ (omega arith)
          opens-block.ensures wide-block-fits.ensures if1.true c.if-d.true c.if-e.true,
    )

-- return Some(at + 17)
pub returns-then-d : goal.returns-then-d
returns-then-d c =
    let args = c.args in
    let opens-block = c.opens_block in
    let wide-block-fits = c.wide_block_fits in
    let if1 = c.if-opens_block-wide_block_fits in (
      omega arith,
      omega arith,
      triple_past args.t.now args.at opens-block.result wide-block-fits.result _ _ (omega arith)
          opens-block.ensures wide-block-fits.ensures if1.true c.if-d.true c.if-e.false,
    )

-- return Some(at + 16)
pub returns-then-opens_block-wide_block_fits : goal.returns-then-opens_block-wide_block_fits
returns-then-opens_block-wide_block_fits c =
    let args = c.args in
    let opens-block = c.opens_block in
    let wide-block-fits = c.wide_block_fits in
    let if1 = c.if-opens_block-wide_block_fits in (
      omega arith,
      omega arith,
      triple_past args.t.now args.at opens-block.result wide-block-fits.result _ _ (omega arith)
          opens-block.ensures wide-block-fits.ensures if1.true c.if-d.false refl,
    )
