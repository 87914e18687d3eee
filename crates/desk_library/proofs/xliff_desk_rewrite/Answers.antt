use Rattle.desk_library.proofs.TellLaws.{tells}
use Rattle.desk_library.proofs.xliff_desk_rewrite.Goals as goal

-- tell(a, number, value)
pub returns : goal.returns
returns c =
    let rewrite = c.rewrite-a in
    tells _ _ _ _ _ _ _ rewrite.ensures c.tell.ensures
