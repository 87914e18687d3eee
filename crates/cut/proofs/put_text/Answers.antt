use Rattle.cut.proofs.CutLaws.{text_over}
use native.Mathlib.Omega.{arith}
use Rattle.cut.proofs.put_text.Goals as goal

-- j + n
pub returns : goal.returns
returns c =
    let args = c.args in
    let put-mark = c.put_mark-i in
    let put-number = c.put_number-j in
    let put = c.put-n in (
      omega (arith, put-mark.ensures.0, put-number.ensures.0, put.ensures.0),
      text_over args.t.now args.out.now put-mark.new.out put-number.new.out put.new.out
          put-mark.result put-number.result put-mark.ensures.1 put-mark.ensures.0
          put-number.ensures.1 put-number.ensures.0 put.ensures.1 (omega arith),
    )
