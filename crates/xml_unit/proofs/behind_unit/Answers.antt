use Rattle.std.proofs.lemmas.Result.{err_from_is_err_and}
use mathlib.Core.Path.{refl}
use lib.ListN.{length}
use Rattle.xml.specs.Elements.{nothing_due, closed}
use Rattle.xml_piece.specs.Pieces.{rest_at}
use Rattle.xml_element.specs.Opens.{spelled}
use Rattle.xml_part.proofs.StepLaws.{start_bad, end_bad}
use Rattle.xml_unit.proofs.UnitLaws.{nothing_behind, late_behind, fault_behind}
use Rattle.xml_unit.proofs.LateTagLaws.{late_tag, late_cut}
use Rattle.xml_unit.proofs.behind_unit.Goals as goal

-- outer_at(text, start)?: a place at fault
pub returns-in_err-tag : goal.returns-in_err-tag
returns-in_err-tag c =
    let p = err_from_is_err_and c.from_residual.result c.from_residual.ensures.1 in
    rw (p.1, p.2) (fault_behind (rest_at c.args.text.now c.args.start) _ c.in_err-tag.ensures)

-- Outer::Start(tag) => Err(Blamed { place: tag.place })
pub returns-in-Start : goal.returns-in-Start
returns-in-Start c =
    let text = c.args.text.now in
    let tag = c.in-Start.tag in
    let found = rw c.in-Start.is at c.in_ok-tag.ensures in
    start_bad text c.args.start tag tag.place found.2 nothing_due
    (late_tag text tag.place (spelled text tag.name) tag.name.upto)

-- Outer::Close(end) => Err(Blamed { place: end.place })
pub returns-in-Close : goal.returns-in-Close
unfolding closed
returns-in-Close c =
    let found = rw c.in-Close.is at c.in_ok-tag.ensures in
    end_bad c.args.text.now c.args.start c.in-Close.end found.1 nothing_due refl

-- Outer::Cut(place) => Err(Blamed { place })
pub returns-in-Cut : goal.returns-in-Cut
returns-in-Cut c =
    let text = c.args.text.now in
    let place = c.in-Cut.place in
    late_behind (rest_at text c.args.start) _ place (rw c.in-Cut.is at c.in_ok-tag.ensures)
    (late_cut place (length text))

-- Outer::End(_) => Ok(())
pub returns-in-End : goal.returns-in-End
returns-in-End c = nothing_behind (rest_at c.args.text.now c.args.start) _ (rw c.in-End.is at c.in_ok-tag.ensures)
