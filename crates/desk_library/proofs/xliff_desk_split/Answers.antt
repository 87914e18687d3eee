use Rattle.desk_library.proofs.TellLaws.{tells}
use Rattle.desk_library.proofs.xliff_desk_split.Goals as goal

-- tell(a, number, value)
pub returns : goal.returns
returns c =
    let split = c.split-a in
    tells _ _ _ _ _ _ _ split.ensures c.tell.ensures
