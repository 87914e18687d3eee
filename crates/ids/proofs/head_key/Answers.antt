use Rattle.ids.proofs.KeyLaws.{head_named, head_none}
use Rattle.ids.proofs.head_key.Goals as goal

pub returns-then-id-eq0 : goal.returns-then-id-eq0
returns-then-id-eq0 c = λ at. head_none _ at c.if-id-eq0.true

-- if id == 0 { 0 } else { key(1, id) }
pub returns-else-id-eq0 : goal.returns-else-id-eq0
returns-else-id-eq0 c = λ at. head_named _ c.key.result at c.if-id-eq0.false c.key.ensures
