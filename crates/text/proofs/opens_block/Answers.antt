use mathlib.Core.Path.{refl}
use Rattle.text.specs.Blocks.{opens_block}
use Rattle.text.proofs.opens_block.Goals as goal

pub returns : goal.returns
unfolding opens_block
returns c = refl
