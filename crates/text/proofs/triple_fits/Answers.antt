use mathlib.Core.Path.{refl}
use Rattle.text.specs.Blocks.{triple_fits}
use Rattle.text.proofs.triple_fits.Goals as goal

pub returns : goal.returns
unfolding triple_fits
returns c = refl
