use Rattle.xml_words.proofs.CodeLaws.{a_point, no_point}
use Rattle.xml_words.proofs.NumberLaws.{no_digit_yet, a_number, no_digits, no_number, too_large, number_so_far, digit_low, digit_high}
use native.Mathlib.Omega.{arith}
use mathlib.Core.List.{[]}
use Rattle.xml_words.proofs.value.Value.number.Goals as goal

-- the loop's start
pub loop-code-init : goal.loop-code-init
loop-code-init c =
    let args = c.args in
    no_digit_yet args.self.text.now args.self.start args.self.quote args.self.inside

-- if !is_digit(c) | ((n == 0) & (c == b'0' as u32)) { return None; }
pub returns-then-is_digit-n : goal.returns-then-is_digit-n
returns-then-is_digit-n c =
    let loop = c.loop-code in
    let args = c.args in
    let text = args.self.text.now in
    let read = a_point text loop.at args.self.quote _ c.code_at.ensures _ c.in-Some.is in
    no_number text args.self.start args.self.quote loop.at loop.n loop.invariant _ _ read
    (rw c.is_digit.ensures at c.if-is_digit-n.true)

-- n * 10
pub overflow_mul-n : goal.overflow_mul-n
overflow_mul-n c = omega (arith, c.loop-code.invariant.small)

-- c - b'0' as u32
pub overflow_sub-n : goal.overflow_sub-n
overflow_sub-n c =
    let n = c.loop-code.n in
    let low = digit_low n c.in-Some.code.point [] (rw c.is_digit.ensures at c.if-is_digit-n.false) in
    omega (arith, low)

-- n * 10 + (c - b'0' as u32)
pub overflow_add-n : goal.overflow_add-n
overflow_add-n c =
    let loop = c.loop-code in
    let high = digit_high loop.n c.in-Some.code.point [] (rw c.is_digit.ensures at c.if-is_digit-n.false) in
    omega (arith, high, loop.invariant.small)

-- if 65535 < n { return None; }
pub returns-then-n-gt65535 : goal.returns-then-n-gt65535
returns-then-n-gt65535 c =
    let loop = c.loop-code in
    let args = c.args in
    let text = args.self.text.now in
    let read = a_point text loop.at args.self.quote _ c.code_at.ensures _ c.in-Some.is in
    too_large text args.self.start args.self.quote loop.at loop.n loop.invariant _ _ read
    (rw c.is_digit.ensures at c.if-is_digit-n.false) c.if-n-gt65535.true

-- the loop's measure
pub loop-code-smaller : goal.loop-code-smaller
loop-code-smaller c =
    let loop = c.loop-code in
    let args = c.args in
    let text = args.self.text.now in
    let read = a_point text loop.at args.self.quote _ c.code_at.ensures _ c.in-Some.is in
    omega (arith, read.ahead, read.inside)

-- the loop's step
pub loop-code-preserved : goal.loop-code-preserved
loop-code-preserved c =
    let loop = c.loop-code in
    let args = c.args in
    let text = args.self.text.now in
    let read = a_point text loop.at args.self.quote _ c.code_at.ensures _ c.in-Some.is in
    number_so_far text args.self.start args.self.quote loop.at loop.n loop.invariant _ _ read
    (rw c.is_digit.ensures at c.if-is_digit-n.false) c.if-n-gt65535.false

-- None
pub returns-then-n-eq0 : goal.returns-then-n-eq0
returns-then-n-eq0 c =
    let loop = c.loop-code in
    let args = c.args in
    let text = args.self.text.now in
    let over = no_point text loop.at args.self.quote _ c.code_at.ensures c.in_default.is in
    no_digits text args.self.start args.self.quote loop.at loop.n loop.invariant over c.if-n-eq0.true

-- Some(n)
pub returns-else-n-eq0 : goal.returns-else-n-eq0
returns-else-n-eq0 c =
    let loop = c.loop-code in
    let args = c.args in
    let text = args.self.text.now in
    let over = no_point text loop.at args.self.quote _ c.code_at.ensures c.in_default.is in
    a_number text args.self.start args.self.quote loop.at loop.n loop.invariant over c.if-n-eq0.false
