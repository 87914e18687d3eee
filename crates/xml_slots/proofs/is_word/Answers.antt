use mathlib.Core.Path.{◌∙◌}
use Rattle.xml_slots.proofs.WordLaws.{equal_is}
use Rattle.xml_slots.proofs.is_word.Goals as goal

-- bytes == word
pub returns : goal.returns
returns c = c.eq.ensures ∙ equal_is c.args.bytes.now c.args.word.now
