use Rattle.xliff.specs.Text.{between}
use mathlib.Core.Path.{refl}
use Rattle.xml_words.proofs.is_digit.Goals as goal

-- (b'0' as u32 <= c) & (c <= b'9' as u32)
pub returns : goal.returns
unfolding between
returns c = refl
