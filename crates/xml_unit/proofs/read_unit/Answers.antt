use Rattle.std.proofs.lemmas.Result.{err_from_is_err_and}
use mathlib.Core.Path.{refl}
use Rattle.xml.specs.Elements.{unit_due, closed}
use Rattle.xml_piece.specs.Pieces.{rest_at}
use Rattle.xml_element.specs.Opens.{start_tokens}
use Rattle.xml_part.specs.Parts.{Missing}
use Rattle.xml_part.proofs.StepLaws.{end_bad}
use Rattle.xml_part.proofs.TagSteps.{unit_tag}
use Rattle.xml_unit.proofs.UnitLaws.{finishes_alike, none_collected, text_bad, text_read}
use Rattle.xml_unit.proofs.read_unit.Goals as goal

-- tag_behind(text, 0)?: no tag
pub returns-in_err-tag : goal.returns-in_err-tag
unfolding Missing
returns-in_err-tag c =
    let p = err_from_is_err_and c.from_residual.result c.from_residual.ensures.1 in
    rw (p.1, p.2) (text_bad c.args.text.now _ (c.in_err-tag.ensures unit_due unit_tag))

-- unit(text, tag, builder)
pub unit-requires : goal.unit-requires
unit-requires c =
    let found = rw c.in-Start.is at c.in_ok-tag.ensures in
    (found.1, none_collected c.requires)

pub returns-in-Start : goal.returns-in-Start
returns-in-Start c =
    let text = c.args.text.now in
    let unit = c.unit in
    let last = unit.new.builder in
    let found = rw c.in-Start.is at c.in_ok-tag.ensures in
    text_read text last c.requires unit.result
    (finishes_alike unit_due (rest_at text 0) (start_tokens text c.in-Start.tag) c.args.builder.now last found.2 unit.result
    unit.ensures)

-- an end tag: Err(Blamed { place: end.place })
pub returns-in-Close : goal.returns-in-Close
unfolding closed
returns-in-Close c =
    let found = rw c.in-Close.is at c.in_ok-tag.ensures in
    text_bad c.args.text.now _ (end_bad c.args.text.now 0 c.in-Close.end found.1 unit_due refl)
