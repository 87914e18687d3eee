use lib.ListN.{length}
use Rattle.xliff.specs.Join.{join}
use Rattle.part_at.proofs.CheckedLaws.{table_passes}
use Rattle.outcomes.proofs.OutcomeLaws.{answers_refused, checked_none, answers_unchecked}
use Rattle.join.proofs.ChainLaws.{no_part, no_next}
use Rattle.join.proofs.NextLaws.{next_part, last_part}
use Rattle.join.proofs.join.Goals as goal

-- return checked
pub returns-in_default : goal.returns-in_default
unfolding join
returns-in_default c =
    let checked = c.check-checked in
    answers_unchecked c.args.table.now checked.result _ _ _ _ c.args.out.now checked.ensures c.in_default.is

-- part_at::part_at(table, n)
pub part_at-requires : goal.part_at-requires
part_at-requires c =
    let checked = c.check-checked in
    let table = c.args.table.now in
    table_passes table c.type_inv.table (checked_none table checked.result _ checked.ensures c.in-Accepted.is)

-- return Answer::Refused(11, 0)
pub returns-in_default-part_at : goal.returns-in_default-part_at
returns-in_default-part_at c =
    let args = c.args in
    let checked = c.check-checked in
    let table = args.table.now in
    let passed = checked_none table checked.result _ checked.ensures c.in-Accepted.is in
    answers_refused _ 11 0 args.out.now
    (no_part table args.part (length args.out.now) passed
    (rw (c.in_default-part_at.is, c.from-n.ensures) at c.part_at.ensures))

-- part_at::part_at(table, n + 1)
pub part_at-requires-2 : goal.part_at-requires-2
part_at-requires-2 c =
    let checked = c.check-checked in
    let table = c.args.table.now in
    table_passes table c.type_inv.table (checked_none table checked.result _ checked.ensures c.in-Accepted.is)

-- return Answer::Refused(11, 0), behind the last part
pub returns-in_default-part_at-2 : goal.returns-in_default-part_at-2
returns-in_default-part_at-2 c =
    let args = c.args in
    let checked = c.check-checked in
    let table = args.table.now in
    let passed = checked_none table checked.result _ checked.ensures c.in-Accepted.is in
    let (b, p, a, f, s) = rw (c.in-Some.is, c.from-n.ensures) at c.part_at.ensures in
    let beyond = rw (c.in_default-part_at-2.is, c.from-n.ensures) at c.part_at-2.ensures in
    answers_refused _ 11 0 args.out.now
    (no_next table args.part (length args.out.now) passed b p (last_part _ args.part b p a f beyond))

-- join_pair(table, x, y, out)
pub join_pair-requires : goal.join_pair-requires
join_pair-requires c =
    let args = c.args in
    let checked = c.check-checked in
    let table = args.table.now in
    let (b, p, a, f, s) = rw (c.in-Some.is, c.from-n.ensures) at c.part_at.ensures in
    let (c2, q, d, g, u) = rw (c.in-Some-part_at.is, c.from-n.ensures) at c.part_at-2.ensures in
    let k = next_part table args.part c.in-Some.x c.in-Some-part_at.y b p a f s c2 q d g u in (
      checked_none table checked.result _ checked.ensures c.in-Accepted.is,
      k.before,
      k.first,
      k.second,
      k.after,
      k.beside,
    )

-- join_pair(table, x, y, out)
pub returns : goal.returns
returns c =
    let args = c.args in
    let table = args.table.now in
    let (b, p, a, f, s) = rw (c.in-Some.is, c.from-n.ensures) at c.part_at.ensures in
    let (c2, q, d, g, u) = rw (c.in-Some-part_at.is, c.from-n.ensures) at c.part_at-2.ensures in
    let k = next_part table args.part c.in-Some.x c.in-Some-part_at.y b p a f s c2 q d g u in
    c.join_pair.ensures args.part k.before k.first k.second k.after k.is k.beside
