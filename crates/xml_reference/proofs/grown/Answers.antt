use mathlib.Core.Path.{◌∙◌}
use native.Mathlib.Omega.{arith}
use Rattle.xml_reference.proofs.DigitLaws.{capped_is}
use Rattle.xml_reference.proofs.grown.Goals as goal

-- (value * base_of(hex) + digit).min(0x110000)
pub returns : goal.returns
returns c = (rw c.base_of.ensures at c.min.ensures ∙ capped_is _, omega arith)
