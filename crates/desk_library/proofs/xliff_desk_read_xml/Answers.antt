use Rattle.desk_library.proofs.TellLaws.{tells}
use Rattle.desk_library.proofs.xliff_desk_read_xml.Goals as goal

-- tell(a, number, value)
pub returns : goal.returns
returns c =
    let read_xml = c.read_xml-a in
    tells _ _ _ _ _ _ _ read_xml.ensures c.tell.ensures
