use Rattle.utf8.proofs.Steps.{one_byte, two_bytes, three_bytes, four_bytes}
use Rattle.writer.specs.Pieces.{overlay}
use lib.ListN.{length}
use mathlib.Core.Path.{sym, ap, ◌∙◌}
use native.Mathlib.Omega.{arith}
use Rattle.utf8.proofs.put_code_point.Goals as goal

-- writer::put_byte(out, at, c as u8)
pub put_byte-requires : goal.put_byte-requires
put_byte-requires c =
    omega (arith, c.requires.1, ap length (one_byte c.args.c c.if-c-lt128.true))

-- return writer::put_byte(out, at, c as u8)
pub returns-then-c-lt128 : goal.returns-then-c-lt128
returns-then-c-lt128 c =
    let args = c.args in
    let put_byte = c.put_byte in
    let form = one_byte args.c c.if-c-lt128.true in (
      omega (arith, put_byte.ensures.0, ap length form),
      put_byte.ensures.1 ∙ sym (ap (overlay args.out.now args.at) form),
    )

-- put_two(out, at, c)
pub put_two-requires : goal.put_two-requires
put_two-requires c =
    let below = c.if-c-lt2048.true in
    (below, omega (arith, c.requires.1, ap length (two_bytes c.args.c c.if-c-lt128.false below)))

-- return at + 2
pub returns-then-c-lt2048 : goal.returns-then-c-lt2048
returns-then-c-lt2048 c =
    let args = c.args in
    let form = two_bytes args.c c.if-c-lt128.false c.if-c-lt2048.true in
    (omega (arith, ap length form), c.put_two.ensures ∙ sym (ap (overlay args.out.now args.at) form))

-- put_three(out, at, c)
pub put_three-requires : goal.put_three-requires
put_three-requires c =
    let below = c.if-c-lt65536.true in
    (below, omega (arith, c.requires.1, ap length (three_bytes c.args.c c.if-c-lt2048.false below)))

-- return at + 3
pub returns-then-c-lt65536 : goal.returns-then-c-lt65536
returns-then-c-lt65536 c =
    let args = c.args in
    let form = three_bytes args.c c.if-c-lt2048.false c.if-c-lt65536.true in (
      omega (arith, ap length form),
      c.put_three.ensures ∙ sym (ap (overlay args.out.now args.at) form),
    )

-- put_four(out, at, c)
pub put_four-requires : goal.put_four-requires
put_four-requires c =
    (c.requires.0, omega (arith, c.requires.1, ap length (four_bytes c.args.c c.if-c-lt65536.false)))

-- at + 4
pub returns : goal.returns
returns c =
    let args = c.args in
    let form = four_bytes args.c c.if-c-lt65536.false in (
      omega (arith, ap length form),
      c.put_four.ensures ∙ sym (ap (overlay args.out.now args.at) form),
    )
