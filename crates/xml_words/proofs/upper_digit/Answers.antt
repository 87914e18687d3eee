use Rattle.xml_words.proofs.HexadecimalLaws.{decimal_digit, letter_digit, no_upper_digit}
use Rattle.xliff.specs.Text.{between}
use Rattle.xliff.proofs.lists.Tests.{and_left}
use native.Mathlib.Omega.{arith}
use borrow.Author.Tests.{leb-true}
use mathlib.Core.Path.{sym, ◌∙◌}
use Rattle.xml_words.proofs.upper_digit.Goals as goal

-- c - b'0' as u32
pub overflow_sub-result : goal.overflow_sub-result
unfolding between
overflow_sub-result c =
    let digit = sym c.is_digit.ensures ∙ c.if-is_digit.true in
    let low = leb-true 48 c.args.c (and_left _ _ digit) in
    omega arith

-- return Some(c - b'0' as u32)
pub returns-then-is_digit : goal.returns-then-is_digit
returns-then-is_digit c = decimal_digit c.args.c (sym c.is_digit.ensures ∙ c.if-is_digit.true)

-- c - (b'A' as u32 - 10)
pub overflow_sub-result-then-c-2 : goal.overflow_sub-result-then-c-2
overflow_sub-result-then-c-2 c = let low = leb-true 65 c.args.c (and_left _ _ c.if-c.true) in omega arith

-- return Some(c - (b'A' as u32 - 10))
pub returns-then-c : goal.returns-then-c
returns-then-c c =
    let code = c.args.c in
    letter_digit code (sym c.is_digit.ensures ∙ c.if-is_digit.false) c.if-c.true

-- None
pub returns : goal.returns
returns c =
    let code = c.args.c in
    no_upper_digit code (sym c.is_digit.ensures ∙ c.if-is_digit.false) c.if-c.false
