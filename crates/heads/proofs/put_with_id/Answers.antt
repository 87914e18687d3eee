use Rattle.heads.proofs.HeadLaws.{head_long, id_set}
use native.Mathlib.Omega.{arith}
use lib.ListN.{length}
use mathlib.Core.Path.{ap}
use Rattle.heads.proofs.put_with_id.Goals as goal

pub put_number-e-requires : goal.put_number-e-requires
put_number-e-requires c =
    let pre = c.requires in
    omega (arith, ap length pre.0.1, head_long pre.0.0)

pub returns : goal.returns
returns c =
    let args = c.args in
    let put = c.put-n in
    let put-number = c.put_number-e in
    id_set args.id args.head.now args.out.now put.new.out put-number.new.out put.result
    put.ensures put-number.ensures.1
