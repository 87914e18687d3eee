use lib.ListN.{length}
use Rattle.xliff.specs.Split.{split}
use Rattle.part_at.proofs.CheckedLaws.{table_passes}
use Rattle.outcomes.proofs.OutcomeLaws.{answers_refused, checked_none, answers_unchecked}
use Rattle.split.proofs.ChainLaws.{no_part}
use Rattle.split.proofs.split.Goals as goal

-- return checked
pub returns-in_default : goal.returns-in_default
unfolding split
returns-in_default c =
    let checked = c.check-checked in
    answers_unchecked c.args.table.now checked.result _ _ _ _ c.args.out.now checked.ensures c.in_default.is

-- part_at::part_at(table, n)
pub part_at-requires : goal.part_at-requires
part_at-requires c =
    let checked = c.check-checked in
    let table = c.args.table.now in
    table_passes table c.type_inv.table (checked_none table checked.result _ checked.ensures c.in-Accepted.is)

-- return Answer::Refused(11, 0)
pub returns-in_default-part_at : goal.returns-in_default-part_at
returns-in_default-part_at c =
    let args = c.args in
    let checked = c.check-checked in
    let table = args.table.now in
    let passed = checked_none table checked.result _ checked.ensures c.in-Accepted.is in
    answers_refused _ 11 0 args.out.now
    (no_part table args.part args.source_cut args.target_cut args.new_id (length args.out.now) passed
    (rw (c.in_default-part_at.is, c.from-n.ensures) at c.part_at.ensures))

-- split_there(table, n, place, cuts, out)
pub split_there-requires : goal.split_there-requires
split_there-requires c =
    let checked = c.check-checked in (
      checked_none c.args.table.now checked.result _ checked.ensures c.in-Accepted.is,
      rw c.in-Some.is at c.part_at.ensures,
    )
