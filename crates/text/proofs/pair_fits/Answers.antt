use mathlib.Core.Path.{refl}
use Rattle.text.specs.Blocks.{pair_fits}
use Rattle.text.proofs.pair_fits.Goals as goal

pub returns : goal.returns
unfolding pair_fits
returns c = refl
