use Rattle.desk_library.proofs.TellLaws.{tells}
use Rattle.desk_library.proofs.xliff_desk_join.Goals as goal

-- tell(a, number, value)
pub returns : goal.returns
returns c =
    let join = c.join-a in
    tells _ _ _ _ _ _ _ join.ensures c.tell.ensures
