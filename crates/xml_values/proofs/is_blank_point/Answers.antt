use Rattle.xml.specs.Characters.{is_blank}
use mathlib.Core.Path.{refl}
use Rattle.xml_values.proofs.is_blank_point.Goals as goal

-- one of the four
pub returns : goal.returns
unfolding is_blank
returns c = refl
