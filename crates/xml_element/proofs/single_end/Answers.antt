use Rattle.xml_element.specs.Opens.{spelled}
use Rattle.xml_element.proofs.EmptyLaws.{short_end, long_end}
use Rattle.xml_element.proofs.single_end.Goals as goal

-- return Ok(next)
pub returns-then-short : goal.returns-then-short
returns-then-short c =
    let args = c.args in
    short_end args.text.now (spelled args.text.now args.name) args.next args.short c.requires.1 c.if-short.true

-- empty_end(text, name, next)
pub returns : goal.returns
returns c =
    let args = c.args in
    long_end args.text.now (spelled args.text.now args.name) args.next args.short c.empty_end.result c.if-short.false
    c.empty_end.ensures
