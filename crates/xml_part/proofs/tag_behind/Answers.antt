use Rattle.std.proofs.lemmas.Result.{err_from_is_err_and}
use Rattle.xml_part.proofs.StepLaws.{cut_missing, over_missing, fault_missing}
use Rattle.xml_part.proofs.tag_behind.Goals as goal

-- outer_at(text, start)?: a place at fault
pub returns-in_err-tag : goal.returns-in_err-tag
returns-in_err-tag c =
    let p = err_from_is_err_and c.from_residual.result c.from_residual.ensures.1 in
    rw (p.1, p.2) (fault_missing c.args.text.now c.args.start _ c.in_err-tag.ensures)

-- Outer::Cut(_) => Err(Blamed { place: text.len() })
pub returns-in-Cut : goal.returns-in-Cut
returns-in-Cut c = cut_missing c.args.text.now c.args.start _ (rw c.in-Cut.is at c.in_ok-tag.ensures)

-- Outer::End(place) => Err(Blamed { place })
pub returns-in-End : goal.returns-in-End
returns-in-End c = over_missing c.args.text.now c.args.start _ (rw c.in-End.is at c.in_ok-tag.ensures)
