use Rattle.heads.proofs.HeadLaws.{target_least, order_read}
use mathlib.Core.Path.{◌∙◌}
use Rattle.heads.proofs.order_of.Goals as goal

-- marks::number_at(t, TARGET_ORDER)
pub number_at-requires : goal.number_at-requires
number_at-requires c = target_least c.args.t.now c.requires

-- marks::number_at(t, TARGET_ORDER)
pub returns : goal.returns
returns c = λ q s e. c.number_at.ensures ∙ order_read c.args.t.now q s e
