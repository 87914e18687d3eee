use lib.ListN.{length}
use mathlib.Core.Path.{sym, subst}
use Rattle.xliff.specs.Answer.{Outcome}
use Rattle.outcomes.specs.Outcomes.{Answers}
use Rattle.xml.specs.Elements.{unit_of_records}
use Rattle.read_xml.specs.Judging.{Judges}
use Rattle.read_xml.proofs.ReadLaws.{text_at_fault, text_read, table_of}
use Rattle.read_xml.proofs.read_xml.Goals as goal

-- return Answer::Refused(22, blamed.place)
pub returns-in-Err : goal.returns-in-Err
returns-in-Err c = text_at_fault c.args.xml.now c.args.out.now _ c.in-Err.ensures

-- judged(&builder, out)
pub returns : goal.returns
unfolding Judges
returns c =
    let judged = c.judged in
    let xml = c.args.xml.now in
    let out = c.args.out.now in
    let whole = c.in_default.ensures in
    let unit = unit_of_records whole.records in
    subst (λ (o : Outcome). Answers o judged.result out judged.new.out)
    (sym (text_read xml (length out) whole.records whole.are))
    (judged.ensures unit (table_of xml whole.records c.read_unit.new.builder whole.are whole.collected))
