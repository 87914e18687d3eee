use Rattle.desk_library.proofs.TellLaws.{tells}
use Rattle.desk_library.proofs.xliff_desk_sheet.Goals as goal

-- tell(a, number, value)
pub returns : goal.returns
returns c =
    let sheet = c.sheet-a in
    tells _ _ _ _ _ _ _ sheet.ensures c.tell.ensures
