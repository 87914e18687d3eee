use Rattle.desk_library.proofs.TellLaws.{tells}
use Rattle.desk_library.proofs.xliff_desk_set_target.Goals as goal

-- tell(a, number, value)
pub returns : goal.returns
returns c =
    let set_target = c.set_target-a in
    tells _ _ _ _ _ _ _ set_target.ensures c.tell.ensures
