use Rattle.desk_library.proofs.TellLaws.{tells}
use Rattle.desk_library.proofs.xliff_desk_write_xml.Goals as goal

-- tell(a, number, value)
pub returns : goal.returns
returns c =
    let write_xml = c.write_xml-a in
    tells _ _ _ _ _ _ _ write_xml.ensures c.tell.ensures
