use Rattle.lines.proofs.LineLaws.{refused_returns}
use lib.ListN.{length, length-append}
use mathlib.Core.List.{[], ◌∷◌, ◌++◌}
use mathlib.Core.Path.{◌≡◌}
use native.Mathlib.Omega.{arith}
use Rattle.xliff.specs.Desk.{decimal, line}
use Rattle.lines.proofs.LineLaws.{tail_byte}
use Rattle.lines.proofs.put_refused.Goals as goal

-- writer::put_byte(out, c + d, b'\n')
pub returns : goal.returns
unfolding line
returns c =
    let args = c.args in
    let out = args.out.now in
    let n = args.n in
    let at₀ = args.at in
    let put = c.put-a in
    let put-decimal = c.put_decimal-b in
    let put_byte = c.put_byte-c in
    let put-decimal2 = c.put_decimal-d in
    let put-byte2 = c.put_byte in
    let e = tail_byte out (78 ∷ 79 ∷ 32 ∷ []) (decimal n) put.new.out put-decimal.new.out put_byte.new.out
    put.result put-decimal.result 32 put.ensures.0 put.ensures.1 put-decimal.ensures.0
    put-decimal.ensures.1 put_byte.ensures.1 in
    let l : put_byte.result ≡ length ((78 ∷ 79 ∷ 32 ∷ []) ++ decimal n ++ (32 ∷ [])) =
    omega
    (arith, put_byte.ensures.0, put.ensures.0, put-decimal.ensures.0, length-append (decimal n) (32 ∷ [])) in
    let f = tail_byte out ((78 ∷ 79 ∷ 32 ∷ []) ++ decimal n ++ (32 ∷ [])) (decimal at₀) put_byte.new.out
    put-decimal2.new.out put-byte2.new.out put_byte.result put-decimal2.result 10 l e
    put-decimal2.ensures.0 put-decimal2.ensures.1 put-byte2.ensures.1 in
    refused_returns out n at₀ put-byte2.new.out put_byte.result put-decimal2.result put-byte2.result l
    put-decimal2.ensures.0 put-byte2.ensures.0 f
    (omega (
      arith,
      put-byte2.ensures.0,
      put_byte.ensures.0,
      put.ensures.0,
      put-decimal.ensures.2,
      put-decimal2.ensures.2,
    ))
