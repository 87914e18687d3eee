use mathlib.Core.Bool.{not}
use mathlib.Core.Path.{sym, ap, ◌∙◌, subst}
use lib.ListN.{length}
use Rattle.xliff.specs.Answer.{Outcome}
use Rattle.xliff.specs.RemoveTarget.{remove_target}
use Rattle.part_at.proofs.CheckedLaws.{table_passes}
use Rattle.outcomes.specs.Outcomes.{Answers}
use Rattle.outcomes.proofs.OutcomeLaws.{answers_refused, checked_none, answers_unchecked}
use Rattle.remove_target.proofs.ChainLaws.{no_part, lacks_is, refused_20, ends}
use Rattle.remove_target.proofs.remove_target.Goals as goal

-- return checked
pub returns-in_default : goal.returns-in_default
unfolding remove_target
returns-in_default c =
    let checked = c.check-checked in
    answers_unchecked c.args.table.now checked.result _ _ _ _ c.args.out.now checked.ensures c.in_default.is

-- part_at::part_at(table, usize::from(part))
pub part_at-requires : goal.part_at-requires
part_at-requires c =
    let checked = c.check-checked in
    let table = c.args.table.now in
    table_passes table c.type_inv.table (checked_none table checked.result _ checked.ensures c.in-Accepted.is)

-- return Answer::Refused(11, 0)
pub returns-in_default-part_at : goal.returns-in_default-part_at
returns-in_default-part_at c =
    let args = c.args in
    let checked = c.check-checked in
    let table = args.table.now in
    let passed = checked_none table checked.result _ checked.ensures c.in-Accepted.is in
    answers_refused _ 11 0 args.out.now
    (no_part table args.part (length args.out.now) passed
    (rw (c.in_default-part_at.is, c.from.ensures) at c.part_at.ensures))

-- return Answer::Refused(20, 0)
pub returns-then-not-has_target : goal.returns-then-not-has_target
returns-then-not-has_target c =
    let args = c.args in
    let checked = c.check-checked in
    let table = args.table.now in
    let passed = checked_none table checked.result _ checked.ensures c.in-Accepted.is in
    let (b, p, a, f, s) = rw (c.in-Some.is, c.from.ensures) at c.part_at.ensures in
    answers_refused _ 20 0 args.out.now
    (refused_20 table args.part (length args.out.now) passed b p a f
    (lacks_is table c.in-Some.place p.target s.target ∙ ap not (sym c.has_target.ensures ∙ c.if-not-has_target.true)))

-- remove_ended(table, place, out)
pub remove_ended-requires : goal.remove_ended-requires
remove_ended-requires c =
    let checked = c.check-checked in
    let (b, p, a, f, s) = rw c.in-Some.is at c.part_at.ensures in
    (checked_none c.args.table.now checked.result _ checked.ensures c.in-Accepted.is, (b, p, a, s))

-- remove_ended(table, place, out)
pub returns : goal.returns
returns c =
    let args = c.args in
    let out = args.out.now in
    let table = args.table.now in
    let checked = c.check-checked in
    let ended = c.remove_ended in
    let passed = checked_none table checked.result _ checked.ensures c.in-Accepted.is in
    let (b, p, a, f, s) = rw (c.in-Some.is, c.from.ensures) at c.part_at.ensures in
    subst (λ (o : Outcome). Answers o ended.result out ended.new.out)
    (sym (ends table args.part (length out) passed b p a f
    (lacks_is table c.in-Some.place p.target s.target ∙ ap not (sym c.has_target.ensures ∙ c.if-not-has_target.false))))
    (ended.ensures b p a s)
