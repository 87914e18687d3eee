use mathlib.Core.Path.{sym, ◌∙◌}
use Rattle.places.proofs.Places.{checked_passes}
use Rattle.table.proofs.WidthLaws.{bytes_known}
use Rattle.rewrite.proofs.PairLaws.{asked}
use Rattle.rewrite.proofs.AnswerLaws.{answers_20, answers_21, answers_15, answers_rewritten}
use Rattle.rewrite.proofs.rewrite_pair.Goals as goal

-- return Answer::Refused(20, 0)
pub returns-then-is_already : goal.returns-then-is_already
returns-then-is_already c =
    answers_20 c.requires c.args.out.now (sym c.is_already.ensures ∙ c.if-is_already.true)

-- rewrite_refusals::is_refused_21(table, side, id, form, unfit)
pub is_refused_21-requires : goal.is_refused_21-requires
is_refused_21-requires c =
    asked c.requires (bytes_known c.args.table.now c.shared_slice_known-1.given)
    (sym c.is_already.ensures ∙ c.if-is_already.false)

-- return Answer::Refused(21, 0)
pub returns-then-is_refused_21 : goal.returns-then-is_refused_21
returns-then-is_refused_21 c =
    let pre = c.requires in
    let other_form = sym c.is_already.ensures ∙ c.if-is_already.false in
    answers_21 pre c.args.out.now other_form
    (sym (c.is_refused_21.ensures pre.pair pre.found) ∙ c.if-is_refused_21.true)

-- return Answer::Refused(15, 0)
pub returns-then-out-table : goal.returns-then-out-table
returns-then-out-table c =
    let known = c.shared_slice_known-1.given in
    let pre = c.requires in
    let other_form = sym c.is_already.ensures ∙ c.if-is_already.false in
    let not-21 = sym (c.is_refused_21.ensures pre.pair pre.found) ∙ c.if-is_refused_21.false in
    answers_15 pre c.args.out.now other_form not-21 (bytes_known c.args.table.now known) c.if-out-table.true

-- rewrite_marks::put_rewritten(out, table, side, id, form)
pub put_rewritten-requires : goal.put_rewritten-requires
put_rewritten-requires c =
    let table = c.args.table.now in
    (checked_passes table (bytes_known table c.shared_slice_known-1.given) c.requires.ready.0, c.if-out-table.false)

-- Answer::Accepted(..)
pub returns : goal.returns
returns c =
    let pre = c.requires in
    let put-rewritten = c.put_rewritten in
    let other_form = sym c.is_already.ensures ∙ c.if-is_already.false in
    let not-21 = sym (c.is_refused_21.ensures pre.pair pre.found) ∙ c.if-is_refused_21.false in
    answers_rewritten pre c.args.out.now other_form not-21
    (bytes_known c.args.table.now c.shared_slice_known-1.given) c.if-out-table.false
    put-rewritten.result put-rewritten.new.out put-rewritten.ensures.0 put-rewritten.ensures.1
