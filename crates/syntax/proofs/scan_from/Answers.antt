use mathlib.Core.Option.{Option}
use mathlib.Core.Path.{sym, ◌∙◌, ap}
use native.Mathlib.Omega.{arith}
use Rattle.xliff.specs.Answer.{Refusal, unless, answer}
use Rattle.syntax.proofs.StepLaws.{bytes_from, scan_on, scan_off, scan_start, ended_well, ended_early}
use borrow.Author.Rules.{rules}
use Rattle.syntax.proofs.scan_from.Goals as goal

-- the loop's start
pub loop-at-init : goal.loop-at-init
unfolding answer unless
loop-at-init c = (search rules, scan_start c.args.t.now c.args.first)

-- at += width_of(r)
pub overflow_add-at : goal.overflow_add-at
unfolding answer unless
overflow_add-at c =
    let t = c.args.t.now in
    let known = c.shared_slice_known-1.given in
    let loop = c.loop-at in
    let loop-test = c.loop-at-test in
    let record-at = c.record_at-r in
    let move-by = c.move_by in
    let g = scan_on t loop.s loop.at record-at.result record-at.ensures loop-test.true _
    (bytes_from t (λ i p. omega (arith, known i))) (sym move-by.ensures ∙ c.in-Ok.is) in
    omega (arith, g, c.width_of-at.ensures)

-- the loop ends
pub loop-at-smaller : goal.loop-at-smaller
unfolding answer unless
loop-at-smaller c =
    let t = c.args.t.now in
    let known = c.shared_slice_known-1.given in
    let loop = c.loop-at in
    let loop-test = c.loop-at-test in
    let record-at = c.record_at-r in
    let move-by = c.move_by in
    let g = scan_on t loop.s loop.at record-at.result record-at.ensures loop-test.true _
    (bytes_from t (λ i p. omega (arith, known i))) (sym move-by.ensures ∙ c.in-Ok.is) in
    omega (arith, g, c.width_of-at.ensures)

-- the loop's step
pub loop-at-preserved : goal.loop-at-preserved
unfolding answer unless
loop-at-preserved c =
    let t = c.args.t.now in
    let known = c.shared_slice_known-1.given in
    let loop = c.loop-at in
    let loop-test = c.loop-at-test in
    let record-at = c.record_at-r in
    let move-by = c.move_by in
    let g = scan_on t loop.s loop.at record-at.result record-at.ensures loop-test.true _
    (bytes_from t (λ i p. omega (arith, known i))) (sym move-by.ensures ∙ c.in-Ok.is) in
    rw c.width_of-at.ensures (g.1, loop.invariant.1 ∙ g.2)

-- return Answer::Refused(n, at)
pub returns-in-Err : goal.returns-in-Err
unfolding answer unless
returns-in-Err c =
    let t = c.args.t.now in
    let loop = c.loop-at in
    let loop-test = c.loop-at-test in
    let record-at = c.record_at-r in
    let move-by = c.move_by in
    sym (ap (λ (o : Option Refusal). answer (unless o t))
    (loop.invariant.1
    ∙ scan_off t loop.s loop.at record-at.result record-at.ensures loop-test.true _
    (sym move-by.ensures ∙ c.in-Err.is)))

-- return Answer::Accepted(at)
pub returns-then-may_end : goal.returns-then-may_end
unfolding answer unless
returns-then-may_end c =
    let t = c.args.t.now in
    let loop = c.loop-at in
    ended_well _ t loop.s loop.at c.loop-at-test.false loop.invariant.0
    (sym c.may_end.ensures ∙ c.if-may_end.true) loop.invariant.1

-- Answer::Refused(2, at)
pub returns : goal.returns
unfolding answer unless
returns c =
    let t = c.args.t.now in
    let loop = c.loop-at in
    ended_early _ t loop.s loop.at c.loop-at-test.false loop.invariant.0
    (sym c.may_end.ensures ∙ c.if-may_end.false) loop.invariant.1

pub record_at-r-requires : goal.record_at-r-requires
unfolding answer unless
record_at-r-requires c = search rules

pub move_by-requires : goal.move_by-requires
unfolding answer unless
move_by-requires c = search rules

pub may_end-requires : goal.may_end-requires
unfolding answer unless
may_end-requires c = search rules
