use Rattle.xml_front.proofs.FrontLaws.{goes_on, goes_nowhere}
use Rattle.xml_front.proofs.goes_on.Goals as goal

-- Some(whole) => text.len() < whole.width
pub returns-in-Some : goal.returns-in-Some
returns-in-Some c =
    let args = c.args in
    goes_on args.text.now args.pad c.requires.0 (c.requires.1, c.requires.2)
    (simp (c.byte_or.ensures, c.byte_or-2.ensures, c.byte_or-3.ensures, c.byte_or-4.ensures)
    at c.char_of.ensures)
    c.in-Some.is

-- None => false
pub returns-in-None : goal.returns-in-None
returns-in-None c =
    let args = c.args in
    goes_nowhere args.text.now args.pad c.requires.0 (c.requires.1, c.requires.2)
    (simp (c.byte_or.ensures, c.byte_or-2.ensures, c.byte_or-3.ensures, c.byte_or-4.ensures)
    at c.char_of.ensures)
    c.in-None.is
