use Rattle.std.proofs.lemmas.Result.{err_from_is_err_and}
use mathlib.Core.Path.{refl}
use Rattle.xml.specs.Elements.{source_due, target_due, closed}
use Rattle.xml_part.specs.Parts.{Missing, SourceSteps}
use Rattle.xml_part.proofs.StepLaws.{steps_from, end_bad}
use Rattle.xml_part.proofs.TagSteps.{source_tag}
use Rattle.xml_part.proofs.source_of.Goals as goal

-- tag_behind(text, start)?: no tag
pub returns-in_err-tag : goal.returns-in_err-tag
unfolding SourceSteps Missing
returns-in_err-tag c k p =
    let e = err_from_is_err_and c.from_residual.result c.from_residual.ensures.1 in
    rw (e.1, e.2) (c.in_err-tag.ensures _ (source_tag k p))

-- a start tag: source_at(text, tag, builder)
pub returns-in-Start : goal.returns-in-Start
unfolding SourceSteps
returns-in-Start c k p =
    let args = c.args in
    let found = rw c.in-Start.is at c.in_ok-tag.ensures in
    let source = c.source_at in
    steps_from args.text.now args.start c.in-Start.tag.name.upto 0 (source_due k p) (target_due k p) _ _
    args.builder.now
    source.new.builder found.0 found.2 source.result (source.ensures k p)

-- an end tag: Err(Blamed { place: end.place })
pub returns-in-Close : goal.returns-in-Close
unfolding SourceSteps closed
returns-in-Close c k p =
    let found = rw c.in-Close.is at c.in_ok-tag.ensures in
    end_bad c.args.text.now c.args.start c.in-Close.end found.1 (source_due k p) refl
