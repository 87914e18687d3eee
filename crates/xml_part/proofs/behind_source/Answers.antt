use Rattle.std.proofs.lemmas.Result.{err_from_is_err_and}
use mathlib.Core.Path.{refl, sym, ◌∙◌}
use mathlib.Core.List.{[]}
use borrow.Author.Tests.{not-true, not-false}
use Rattle.xliff.specs.Good.{part_heads}
use Rattle.xml.specs.Elements.{part_due, target_due, part_end_due, closed}
use Rattle.xml_piece.specs.Pieces.{rest_at}
use Rattle.xml_element.specs.Opens.{spelled, start_tokens}
use Rattle.xml_passages.proofs.OuterLaws.{part_closes}
use Rattle.xml_records.proofs.CollectLaws.{collects_none}
use Rattle.xml_part.specs.Parts.{Missing, TargetSteps, PartEnds}
use Rattle.xml_part.proofs.StepLaws.{start_bad, end_leads, end_bad, steps_from, ends_then}
use Rattle.xml_part.proofs.TagSteps.{target_tag}
use Rattle.xml_part.proofs.behind_source.Goals as goal

-- tag_behind(text, start)?: no tag
pub returns-in_err-tag : goal.returns-in_err-tag
unfolding Missing
returns-in_err-tag c =
    let p = err_from_is_err_and c.from_residual.result c.from_residual.ensures.1 in
    rw (p.1, p.2) (c.in_err-tag.ensures _ (target_tag c.args.position (spelled c.args.text.now c.args.name)))

-- target_at(text, tag, builder, position)?: a place at fault
pub returns-in_err-next-in-Start : goal.returns-in_err-next-in-Start
unfolding TargetSteps
returns-in_err-next-in-Start c =
    let args = c.args in
    let residual = c.from_residual-in_err-next-in-Start in
    let p = err_from_is_err_and residual.result residual.ensures.1 in
    let name = spelled args.text.now args.name in
    let found = rw c.in-Start.is at c.in_ok-tag.ensures in
    rw (p.1, p.2)
    (start_bad args.text.now args.start c.in-Start.tag _ found.2 (target_due args.position name)
    (c.in_err-next-in-Start.ensures name))

-- part_end(text, next, name)
pub part_end-requires : goal.part_end-requires
unfolding TargetSteps
part_end-requires c =
    let read = c.in_ok-next-in-Start.ensures (spelled c.args.text.now c.args.name) in
    (read.0.inside, c.requires.1)

pub returns-in_ok-next-in-Start : goal.returns-in_ok-next-in-Start
unfolding TargetSteps PartEnds
returns-in_ok-next-in-Start c =
    let args = c.args in
    let text = args.text.now in
    let name = spelled text args.name in
    let position = args.position in
    let tag = c.in-Start.tag in
    let found = rw c.in-Start.is at c.in_ok-tag.ensures in
    let read = c.in_ok-next-in-Start.ensures name in
    let builder = c.target_at.new.builder in
    steps_from text args.start tag.name.upto 0 (target_due position name) (part_due position) (rest_at text args.start)
    (start_tokens text tag) args.builder.now builder found.0 found.2 c.part_end.result
    (ends_then text tag.name.upto c.in_ok-next-in-Start.next 0 (target_due position name) (part_end_due position name)
    (start_tokens text tag) read.0 read.1 (part_due position) c.part_end.result (c.part_end.ensures position))

-- return Err(Blamed { place: end.place }): the end tag of another name
pub returns-then-not-ends_name : goal.returns-then-not-ends_name
unfolding closed
returns-then-not-ends_name c =
    let args = c.args in
    let found = rw c.in-Close.is at c.in_ok-tag.ensures in
    end_bad args.text.now args.start c.in-Close.end found.1 (target_due args.position (spelled args.text.now args.name))
    (rw (sym c.ends_name.ensures ∙ not-true _ c.if-not-ends_name.true-raw) refl)

-- Ok(end.next)
pub returns-else-not-ends_name : goal.returns-else-not-ends_name
returns-else-not-ends_name c =
    let args = c.args in
    let text = args.text.now in
    let position = args.position in
    let name = spelled text args.name in
    let end = c.in-Close.end in
    let found = rw c.in-Close.is at c.in_ok-tag.ensures in (
      found.0.goes,
      record {
        records = [];
        heads_are = unfold part_heads in refl;
        leads =
            end_leads text args.start end found.1 [] (target_due position name) (part_due position)
            (part_closes position name (spelled text end.name) end.place (rest_at text end.next)
            (sym c.ends_name.ensures ∙ not-false _ c.if-not-ends_name.false-raw));
        collects = collects_none;
      },
    )
