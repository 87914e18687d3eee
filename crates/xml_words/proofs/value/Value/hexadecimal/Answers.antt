use Rattle.xml_words.proofs.CodeLaws.{a_point, no_point}
use Rattle.xml_words.proofs.HexadecimalLaws.{no_digit_yet, four_read, too_short, a_fifth, no_digit, value_small, hexadecimal_so_far}
use mathlib.Core.Path.{sym, ap, ◌∙◌}
use native.Mathlib.Omega.{arith}
use Rattle.xml_front.specs.Fronts.{number_told}
use Rattle.xml_words.proofs.value.Value.hexadecimal.Goals as goal

-- the loop's start
pub loop-code-init : goal.loop-code-init
loop-code-init c =
    let args = c.args in
    no_digit_yet args.self.text.now args.self.start args.self.quote args.self.inside

-- if k == 4 { return None; }
pub returns-then-k-eq4 : goal.returns-then-k-eq4
returns-then-k-eq4 c =
    let loop = c.loop-code in
    let args = c.args in
    let text = args.self.text.now in
    let read = a_point text loop.at args.self.quote _ c.code_at.ensures _ c.in-Some.is in
    a_fifth text args.self.start args.self.quote loop.at loop.n loop.k loop.invariant _ _ read c.if-k-eq4.true

-- upper_digit(code.point)?
pub returns-in_err-digit : goal.returns-in_err-digit
returns-in_err-digit c =
    let loop = c.loop-code in
    let args = c.args in
    let text = args.self.text.now in
    let read = a_point text loop.at args.self.quote _ c.code_at.ensures _ c.in-Some.is in
    rw c.from_residual.ensures
    (no_digit text args.self.start args.self.quote loop.at loop.n loop.k loop.invariant _ _ read
    c.if-k-eq4.false (sym (ap number_told c.in_err-digit.was) ∙ c.upper_digit.ensures))

-- n * 16
pub overflow_mul-n : goal.overflow_mul-n
overflow_mul-n c =
    let loop = c.loop-code in
    let args = c.args in
    let text = args.self.text.now in
    let read = a_point text loop.at args.self.quote _ c.code_at.ensures _ c.in-Some.is in
    let small =
    value_small text args.self.start args.self.quote loop.at loop.n loop.k loop.invariant _ _ read
    c.if-k-eq4.false _ (sym (ap number_told c.in_ok-digit.was) ∙ c.upper_digit.ensures) in
    omega (arith, small)

-- n * 16 + digit
pub overflow_add-n : goal.overflow_add-n
overflow_add-n c =
    let loop = c.loop-code in
    let args = c.args in
    let text = args.self.text.now in
    let read = a_point text loop.at args.self.quote _ c.code_at.ensures _ c.in-Some.is in
    let small =
    value_small text args.self.start args.self.quote loop.at loop.n loop.k loop.invariant _ _ read
    c.if-k-eq4.false _ (sym (ap number_told c.in_ok-digit.was) ∙ c.upper_digit.ensures) in
    omega (arith, small)

-- k += 1
pub overflow_add-k : goal.overflow_add-k
overflow_add-k c = omega (arith, c.loop-code.invariant.few)

-- the loop's measure
pub loop-code-smaller : goal.loop-code-smaller
loop-code-smaller c =
    let loop = c.loop-code in
    let args = c.args in
    let text = args.self.text.now in
    let read = a_point text loop.at args.self.quote _ c.code_at.ensures _ c.in-Some.is in
    omega (arith, read.ahead, read.inside)

-- the loop's step
pub loop-code-preserved : goal.loop-code-preserved
loop-code-preserved c =
    let loop = c.loop-code in
    let args = c.args in
    let text = args.self.text.now in
    let read = a_point text loop.at args.self.quote _ c.code_at.ensures _ c.in-Some.is in
    hexadecimal_so_far text args.self.start args.self.quote loop.at loop.n loop.k loop.invariant _ _ read
    c.if-k-eq4.false _ (sym (ap number_told c.in_ok-digit.was) ∙ c.upper_digit.ensures)

-- if k == 4 { Some(n) }
pub returns-then-k-eq4-2 : goal.returns-then-k-eq4-2
returns-then-k-eq4-2 c =
    let loop = c.loop-code in
    let args = c.args in
    let text = args.self.text.now in
    let over = no_point text loop.at args.self.quote _ c.code_at.ensures c.in_default.is in
    four_read text args.self.start args.self.quote loop.at loop.n loop.k loop.invariant over c.if-k-eq4-2.true

-- else { None }
pub returns-else-k-eq4-2 : goal.returns-else-k-eq4-2
returns-else-k-eq4-2 c =
    let loop = c.loop-code in
    let args = c.args in
    let text = args.self.text.now in
    let over = no_point text loop.at args.self.quote _ c.code_at.ensures c.in_default.is in
    too_short text args.self.start args.self.quote loop.at loop.n loop.k loop.invariant over c.if-k-eq4-2.false
