use Rattle.table.proofs.ReadLaws.{known_is}
use Rattle.table.proofs.known_of.Goals as goal

-- what is read, not looked at
pub returns : goal.returns
returns c = known_is c.args.t.now c.read_of.result c.read_of.ensures
