use lib.ListN.{length-append}
use mathlib.Core.List.{[], ◌∷◌}
use native.Mathlib.Omega.{arith}
use Rattle.xliff.specs.Desk.{decimal, line}
use Rattle.lines.proofs.LineLaws.{tail_byte}
use Rattle.lines.proofs.put_accepted.Goals as goal

-- writer::put_byte(out, a + b, b'\n')
pub returns : goal.returns
unfolding line
returns c =
    let args = c.args in
    let n = args.n in
    let put = c.put-a in
    let put-decimal = c.put_decimal-b in
    let put_byte = c.put_byte in
    let e = tail_byte args.out.now (79 ∷ 75 ∷ 32 ∷ []) (decimal n) put.new.out put-decimal.new.out
    put_byte.new.out put.result put-decimal.result 10 put.ensures.0 put.ensures.1
    put-decimal.ensures.0 put-decimal.ensures.1 put_byte.ensures.1 in (
      omega (
        arith,
        put_byte.ensures.0,
        put.ensures.0,
        put-decimal.ensures.0,
        length-append (decimal n) (10 ∷ []),
      ),
      e,
      omega (arith, put_byte.ensures.0, put.ensures.0, put-decimal.ensures.2),
    )
