use mathlib.Core.Path.{sym, ◌∙◌}
use Rattle.xml_reference.proofs.DigitLaws.{digit_is}
use Rattle.xml_reference.proofs.digit_of.Goals as goal

-- return Some(u32::from(b - b'0'))
pub returns-then-b : goal.returns-then-b
returns-then-b c =
    let args = c.args in
    sym (digit_is args.hex args.b ∙ rw (c.if-b.true, c.from.ensures))

-- return Some(u32::from(b - (b'A' - 10)))
pub returns-then-hex-b : goal.returns-then-hex-b
returns-then-hex-b c =
    let args = c.args in
    sym (digit_is args.hex args.b ∙ rw (c.if-b.false, c.if-hex-b.true, c.from-then-hex-b.ensures))

-- return Some(u32::from(b - (b'a' - 10)))
pub returns-then-hex-b-2 : goal.returns-then-hex-b-2
returns-then-hex-b-2 c =
    let args = c.args in
    let if1 = c.if-b in
    let from = c.from-then-hex-b-2 in
    sym (digit_is args.hex args.b ∙ rw (if1.false, c.if-hex-b.false, c.if-hex-b-2.true, from.ensures))

-- None
pub returns : goal.returns
returns c =
    let args = c.args in
    sym (digit_is args.hex args.b ∙ rw (c.if-b.false, c.if-hex-b.false, c.if-hex-b-2.false))
