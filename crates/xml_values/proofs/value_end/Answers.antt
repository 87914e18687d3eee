use Rattle.std.proofs.lemmas.Result.{err_from_is_err_and}
use Rattle.xml_values.proofs.ValueLaws.{value_begins, value_goes_on, value_at_fault, value_ends, value_stops}
use Rattle.xml_values.proofs.FitLaws.{value_within}
use Rattle.xml_front.specs.Fronts.{told}
use Rattle.xliff.proofs.lists.Slices.{tail_is}
use native.Mathlib.Omega.{arith}
use borrow.Author.Tests.{ne_eqb}
use mathlib.Core.Path.{sym, ap, ◌∙◌}
use borrow.Author.Rules.{rules}
use Rattle.xml_values.proofs.value_end.Goals as goal

-- the loop's start
pub loop-at-init : goal.loop-at-init
loop-at-init c =
    let args = c.args in
    value_begins args.text.now args.from args.quote (search rules)

-- return Ok(at)
pub returns-then-text-at : goal.returns-then-text-at
returns-then-text-at c =
    let args = c.args in
    let loop = c.loop-at in
    value_ends args.text.now args.from args.quote loop.at loop.invariant (search rules) c.if-text-at.true

-- at = at + 1 + front.more
pub overflow_add-at-in-loop-at : goal.overflow_add-at-in-loop-at
overflow_add-at-in-loop-at c =
    let text = c.args.text.now in
    let loop = c.loop-at in
    let value_front = c.value_front in
    let front = sym (simp tail_is at value_front.ensures) ∙ ap told c.in_ok-front.was in
    let within = value_within text loop.at _ _ (search rules) front in
    omega (arith, within)

-- the loop's measure
pub loop-at-smaller : goal.loop-at-smaller
loop-at-smaller c =
    let text = c.args.text.now in
    let loop = c.loop-at in
    let loop-test = c.loop-at-test in
    let value_front = c.value_front in
    let front = sym (simp tail_is at value_front.ensures) ∙ ap told c.in_ok-front.was in
    let within = value_within text loop.at _ _ (search rules) front in
    omega (arith, within, loop-test.true)

-- the loop's step
pub loop-at-preserved : goal.loop-at-preserved
loop-at-preserved c =
    let args = c.args in
    let text = args.text.now in
    let loop = c.loop-at in
    let if1 = c.if-text-at in
    let value_front = c.value_front in
    let front = sym (simp tail_is at value_front.ensures) ∙ ap told c.in_ok-front.was in
    let within = value_within text loop.at _ _ (search rules) front in
    value_goes_on text args.from args.quote loop.at loop.invariant (search rules) (ne_eqb _ _ if1.false) _ _ front
    within

-- value_front(&text[at..])?
pub returns-in_err-front : goal.returns-in_err-front
returns-in_err-front c =
    let args = c.args in
    let loop = c.loop-at in
    let front = sym (simp tail_is at c.value_front.ensures) ∙ ap told c.in_err-front.was in
    let p = err_from_is_err_and c.from_residual.result c.from_residual.ensures.1 in
    rw (p.1, p.2)
    (value_at_fault args.text.now args.from args.quote loop.at loop.invariant (search rules)
    (ne_eqb _ _ c.if-text-at.false) _ front)

-- Err(Flaw::Cut)
pub returns : goal.returns
returns c =
    let args = c.args in
    let loop = c.loop-at in
    value_stops args.text.now args.from args.quote loop.at loop.invariant (search rules)
