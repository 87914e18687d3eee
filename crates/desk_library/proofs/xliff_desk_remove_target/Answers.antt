use Rattle.desk_library.proofs.TellLaws.{tells}
use Rattle.desk_library.proofs.xliff_desk_remove_target.Goals as goal

-- tell(a, number, value)
pub returns : goal.returns
returns c =
    let remove_target = c.remove_target-a in
    tells _ _ _ _ _ _ _ remove_target.ensures c.tell.ensures
