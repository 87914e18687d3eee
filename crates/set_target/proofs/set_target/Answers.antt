use mathlib.Core.Path.{sym, ◌∙◌}
use borrow.Author.Tests.{not-true, not-false}
use lib.ListN.{length}
use Rattle.xliff.specs.SetTarget.{set_target}
use Rattle.xliff.specs.Parse.{content_fault}
use Rattle.part_at.proofs.CheckedLaws.{table_passes}
use Rattle.outcomes.proofs.OutcomeLaws.{answers_refused, checked_none, answers_unchecked, accepted_without, refused_with}
use Rattle.set_target.proofs.ChainLaws.{no_part, refused_2, bad_content}
use Rattle.set_target.proofs.set_target.Goals as goal

-- return checked
pub returns-in_default : goal.returns-in_default
unfolding set_target
returns-in_default c =
    let checked = c.check-checked in
    answers_unchecked c.args.table.now checked.result _ _ _ _ c.args.out.now checked.ensures c.in_default.is

-- part_at::part_at(table, usize::from(part))
pub part_at-requires : goal.part_at-requires
part_at-requires c =
    let checked = c.check-checked in
    let table = c.args.table.now in
    table_passes table c.type_inv.table (checked_none table checked.result _ checked.ensures c.in-Accepted.is)

-- return Answer::Refused(11, 0)
pub returns-in_default-part_at : goal.returns-in_default-part_at
returns-in_default-part_at c =
    let args = c.args in
    let checked = c.check-checked in
    let table = args.table.now in
    let passed = checked_none table checked.result _ checked.ensures c.in-Accepted.is in
    answers_refused _ 11 0 args.out.now
    (no_part table args.part args.state args.content.now (length args.out.now) passed
    (rw (c.in_default-part_at.is, c.from.ensures) at c.part_at.ensures))

-- return Answer::Refused(2, 0)
pub returns-then-not-state_fits : goal.returns-then-not-state_fits
returns-then-not-state_fits c =
    let args = c.args in
    let checked = c.check-checked in
    let table = args.table.now in
    let passed = checked_none table checked.result _ checked.ensures c.in-Accepted.is in
    let (b, p, a, f, s) = rw (c.in-Some.is, c.from.ensures) at c.part_at.ensures in
    answers_refused _ 2 0 args.out.now
    (refused_2 table args.part args.state args.content.now (length args.out.now) passed b p a f
    (sym (c.state_fits.ensures table b p a s) ∙ not-true _ c.if-not-state_fits.true-raw))

-- Answer::Refused(number, at) => Answer::Refused(number, at)
pub returns-in-Refused : goal.returns-in-Refused
returns-in-Refused c =
    let args = c.args in
    let checked = c.check-checked in
    let table = args.table.now in
    let content = args.content.now in
    let passed = checked_none table checked.result _ checked.ensures c.in-Accepted.is in
    let (b, p, a, f, s) = rw (c.in-Some.is, c.from.ensures) at c.part_at.ensures in
    let fits = sym (c.state_fits.ensures table b p a s) ∙ not-false _ c.if-not-state_fits.false-raw in
    let fault = refused_with (content_fault content) content _ _ (rw c.in-Refused.is at c.content.ensures) in
    answers_refused _ _ _ args.out.now
    (bad_content table args.part args.state content (length args.out.now) passed b p a f fits _ _ fault)

-- set_content(table, part, place, state, content, out)
pub set_content-requires : goal.set_content-requires
set_content-requires c =
    let args = c.args in
    let checked = c.check-checked in
    let table = args.table.now in
    let content = args.content.now in
    let passed = checked_none table checked.result _ checked.ensures c.in-Accepted.is in
    let (b, p, a, f, s) = rw (c.in-Some.is, c.from.ensures) at c.part_at.ensures in
    let fits = sym (c.state_fits.ensures table b p a s) ∙ not-false _ c.if-not-state_fits.false-raw in (
      (passed, (b, p, a, f, s, fits)),
      accepted_without (content_fault content) content _ (rw c.in-Accepted-content.is at c.content.ensures),
    )
