use Rattle.ids.specs.Keys.{owner}
use Rattle.ids.proofs.KeyLaws.{no_record}
use Rattle.ids.proofs.key_of.Goals as goal

pub returns-in_default : goal.returns-in_default
returns-in_default c = λ cs at. no_record (owner c.args.o) cs at c.args.r c.in_default.not-Good
