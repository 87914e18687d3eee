use mathlib.Core.Path.{sym, ◌∙◌}
use lib.ListN.{length}
use Rattle.xliff.specs.Rewrite.{rewrite}
use Rattle.xliff.proofs.unit.Result.{small_table}
use Rattle.places.proofs.Places.{checked_passes}
use Rattle.table.proofs.WidthLaws.{bytes_known}
use Rattle.outcomes.proofs.OutcomeLaws.{answers_refused, checked_none, answers_unchecked}
use Rattle.rewrite.proofs.PairLaws.{letters_are, pair_missing, pair_complete}
use Rattle.rewrite_refusals.proofs.ChainLaws.{refused_2, no_pair}
use Rattle.rewrite.proofs.rewrite.Goals as goal

-- return checked
pub returns-in_default : goal.returns-in_default
unfolding rewrite
returns-in_default c =
    let checked = c.check-checked in
    answers_unchecked c.args.table.now checked.result _ _ _ _ c.args.out.now checked.ensures c.in_default.is

-- return Answer::Refused(2, 0)
pub returns-then-side-form : goal.returns-then-side-form
returns-then-side-form c =
    let args = c.args in
    let checked = c.check-checked in
    let passed = checked_none args.table.now checked.result _ checked.ensures c.in-Accepted.is in
    answers_refused _ 2 0 args.out.now
    (refused_2 args.table.now args.side args.id args.form (length args.out.now) passed
    (sym (letters_are args.side args.form) ∙ c.if-side-form.true))

-- whole_pair::find(table, side, id)
pub find-requires : goal.find-requires
find-requires c =
    let table = c.args.table.now in
    let checked = c.check-checked in
    let passed = checked_none table checked.result _ checked.ensures c.in-Accepted.is in
    (checked_passes table (bytes_known table c.type_inv.table) passed, small_table table passed)

-- return Answer::Refused(20, 0)
pub returns-in_default-find : goal.returns-in_default-find
returns-in_default-find c =
    let args = c.args in
    let table = args.table.now in
    let checked = c.check-checked in
    let passed = checked_none table checked.result _ checked.ensures c.in-Accepted.is in
    let letters = sym (letters_are args.side args.form) ∙ c.if-side-form.false in
    answers_refused _ 20 0 args.out.now
    (no_pair table args.side args.id args.form (length args.out.now) passed letters
    (pair_missing table args.side args.id args.form (passed, letters) c.find.result c.find.ensures
    c.in_default-find.is))

-- rewrite_pair(table, pair, side, id, form, out)
pub rewrite_pair-requires : goal.rewrite_pair-requires
rewrite_pair-requires c =
    let args = c.args in
    let table = args.table.now in
    let checked = c.check-checked in
    let passed = checked_none table checked.result _ checked.ensures c.in-Accepted.is in
    let letters = sym (letters_are args.side args.form) ∙ c.if-side-form.false in
    pair_complete table args.side args.id args.form (passed, letters) c.find.result c.find.ensures
    c.in-Some.pair c.in-Some.is
