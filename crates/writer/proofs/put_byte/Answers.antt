use Rattle.writer.proofs.PieceLaws.{one_byte}
use mathlib.Core.Path.{refl}
use Rattle.writer.proofs.put_byte.Goals as goal

-- at + 1
pub returns : goal.returns
returns c = (refl, one_byte c.args.out.now c.args.at c.args.b c.requires)
