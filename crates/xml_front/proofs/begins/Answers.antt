use mathlib.Core.Path.{◌∙◌}
use Rattle.xml_front.proofs.BeginLaws.{begins_is}
use Rattle.xml_front.proofs.begins.Goals as goal

-- text.starts_with(word)
pub returns : goal.returns
returns c = c.starts_with.ensures.value ∙ begins_is c.args.word.now c.args.text.now
