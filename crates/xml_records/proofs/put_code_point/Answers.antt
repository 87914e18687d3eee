use Rattle.xml_records.proofs.CollectLaws.{collects_code_point_in_loan}
use Rattle.xml_records.proofs.put_code_point.Goals as goal

-- builder.put_code_point(c)
pub returns : goal.returns
returns c = collects_code_point_in_loan c.put_code_point.ensures.put c.put_code_point.ensures.same
