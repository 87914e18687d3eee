use Rattle.std.proofs.lemmas.Result.{err_from_is_err_and}
use mathlib.Core.Path.{refl, sym, ◌∙◌}
use mathlib.Core.List.{[]}
use borrow.Author.Tests.{not-true, not-false}
use Rattle.xml.specs.Elements.{part_due, part_end_due, outside, opened, closed, turn}
use Rattle.xml_element.specs.Opens.{spelled, TagBlamed}
use Rattle.xml_passages.proofs.OuterLaws.{targeted_part_closes}
use Rattle.xml_part.specs.Parts.{Missing, PartEnds}
use Rattle.xml_part.proofs.StepLaws.{start_bad, end_leads, end_bad}
use Rattle.xml_part.proofs.TagSteps.{part_end_tag}
use Rattle.xml_part.proofs.part_end.Goals as goal

-- tag_behind(text, start)?: no tag
pub returns-in_err-tag : goal.returns-in_err-tag
unfolding PartEnds Missing
returns-in_err-tag c k =
    let p = err_from_is_err_and c.from_residual.result c.from_residual.ensures.1 in
    rw (p.1, p.2) (c.in_err-tag.ensures _ (part_end_tag k (spelled c.args.text.now c.args.name)))

-- a start tag: Err(blamed_tag(text, tag))
pub returns-in-Start : goal.returns-in-Start
unfolding PartEnds TagBlamed turn opened
returns-in-Start c k =
    let args = c.args in
    let text = args.text.now in
    let tag = c.in-Start.tag in
    let found = rw c.in-Start.is at c.in_ok-tag.ensures in
    let name = spelled text args.name in
    start_bad text args.start tag _ found.2 (part_end_due k name)
    (c.blamed_tag.ensures (spelled text tag.name) (outside (part_end_due k name)) (λ ats. refl)
    ((part_end_tag k name).cut tag.place))

-- return Err(Blamed { place: end.place }): the end tag of another name
pub returns-then-not-ends_name : goal.returns-then-not-ends_name
unfolding PartEnds closed
returns-then-not-ends_name c k =
    let args = c.args in
    let found = rw c.in-Close.is at c.in_ok-tag.ensures in
    end_bad args.text.now args.start c.in-Close.end found.1 (part_end_due k (spelled args.text.now args.name))
    (rw (sym c.ends_name.ensures ∙ not-true _ c.if-not-ends_name.true-raw) refl)

-- Ok(end.next)
pub returns-else-not-ends_name : goal.returns-else-not-ends_name
unfolding PartEnds
returns-else-not-ends_name c k =
    let args = c.args in
    let text = args.text.now in
    let end = c.in-Close.end in
    let name = spelled text args.name in
    let found = rw c.in-Close.is at c.in_ok-tag.ensures in (
      found.0.goes,
      end_leads text args.start end found.1 [] (part_end_due k name) (part_due k)
          (targeted_part_closes k name (spelled text end.name) end.place _
          (sym c.ends_name.ensures ∙ not-false _ c.if-not-ends_name.false-raw)),
    )
