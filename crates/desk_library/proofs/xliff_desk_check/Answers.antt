use Rattle.desk_library.proofs.TellLaws.{told_as}
use Rattle.desk_library.proofs.xliff_desk_check.Goals as goal

-- tell(table_check::check(table), number, value)
pub returns : goal.returns
returns c =
    let check = c.check in
    told_as _ _ _ _ _ check.ensures c.tell.ensures
