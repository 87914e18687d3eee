use Rattle.table.proofs.ReadLaws.{record_is}
use Rattle.table.proofs.record_of.Goals as goal

-- what is read, looked at
pub returns : goal.returns
returns c = record_is c.args.t.now c.read_of.result c.read_of.ensures
