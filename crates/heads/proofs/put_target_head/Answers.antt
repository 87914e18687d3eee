use Rattle.heads.proofs.HeadLaws.{target_long, target_wrote}
use native.Mathlib.Omega.{arith}
use Rattle.heads.proofs.put_target_head.Goals as goal

-- writer::put_mark(out, 0, b"TG")
pub put_mark-m-requires : goal.put_mark-m-requires
put_mark-m-requires c =
    let order = c.args.order in
    omega (arith, target_long order)

-- writer::put_number(out, m, order)
pub put_number-requires : goal.put_number-requires
put_number-requires c =
    let order = c.args.order in
    let put-mark = c.put_mark-m in
    omega (arith, put-mark.ensures.0, target_long order)

-- writer::put_number(out, m, order)
pub returns : goal.returns
returns c =
    let args = c.args in
    let order = args.order in
    let put-mark = c.put_mark-m in
    let put-number = c.put_number in (
      omega (arith, put-mark.ensures.0, put-number.ensures.0, target_long order),
      target_wrote order args.out.now put-mark.new.out put-number.new.out put-mark.result
          put-mark.ensures.0 put-mark.ensures.1 put-number.ensures.1,
    )
