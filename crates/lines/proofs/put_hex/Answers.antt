use Rattle.xliff.specs.Bytes.{gather}
use mathlib.Core.Path.{refl, ◌∙◌}
use native.Mathlib.Omega.{arith}
use Rattle.lines.specs.Lines.{hex}
use Rattle.lines.proofs.LineLaws.{hex_next, hex_end}
use Rattle.lines.proofs.put_hex.Goals as goal

-- the loop's start
pub loop-b-init : goal.loop-b-init
unfolding hex gather
loop-b-init c = (omega arith, refl, refl, refl, refl)

-- hex_digit(b / 16)
pub hex_digit-requires : goal.hex_digit-requires
unfolding hex gather
hex_digit-requires c =
    let loop = c.loop-b in
    omega (arith, c.type_inv.t loop.b-index)

-- the loop's step
pub loop-b-preserved : goal.loop-b-preserved
unfolding hex gather
loop-b-preserved c =
    let args = c.args in
    let loop = c.loop-b in
    let inv = loop.invariant in
    let hex_digit = c.hex_digit in
    let put_byte = c.put_byte-k in
    let hex-digit2 = c.hex_digit-in-loop-b in
    let put-byte2 = c.put_byte-at in
    let e = hex_next args.t.now args.out.now loop.out put_byte.new.out put-byte2.new.out loop.b-index
    loop.at put_byte.result hex_digit.result hex-digit2.result (omega arith) inv.3 inv.4
    hex_digit.ensures hex-digit2.ensures put_byte.ensures.0 put_byte.ensures.1
    put-byte2.ensures.1 in (
      omega arith,
      omega (arith, put-byte2.ensures.0, put_byte.ensures.0, inv.1),
      put-byte2.auto.out ∙ put_byte.auto.out ∙ inv.2,
      put-byte2.ensures.0 ∙ e.0,
      e.1,
    )

-- at
pub returns : goal.returns
unfolding hex gather
returns c =
    let args = c.args in
    let loop = c.loop-b in
    let inv = loop.invariant in
    hex_end args.t.now args.out.now loop.out loop.b-index loop.at inv.0 c.loop-b-test.false inv.1 inv.3 inv.4
