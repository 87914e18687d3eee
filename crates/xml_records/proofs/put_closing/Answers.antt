use Rattle.xliff.specs.Encode.{record_bytes}
use Rattle.xliff.specs.Parse.{is_part}
use Rattle.xml_records.proofs.CollectLaws.{whole_closing, collects_record_in_loan}
use mathlib.Core.Path.{refl}
use Rattle.xml_records.proofs.put_closing.Goals as goal

-- builder.put_record(b"UE", false)
pub returns : goal.returns
unfolding record_bytes is_part
returns c = collects_record_in_loan c.put_record.ensures.put c.put_record.ensures.same whole_closing refl refl
