use Rattle.draft.proofs.DraftLaws.{wrote_nothing, wrote_as}
use Rattle.xml_tags.proofs.TagLaws.{zero_nothing, not_zero}
use Rattle.xml_tags.proofs.put_unless_zero.Goals as goal

-- put_number(draft, name, n)
pub returns-then-n-ne0 : goal.returns-then-n-ne0
returns-then-n-ne0 c = wrote_as (not_zero c.args.name.now c.args.n c.if-n-ne0.true) c.put_number.ensures

-- no attribute
pub returns-else-n-ne0 : goal.returns-else-n-ne0
returns-else-n-ne0 c = wrote_as (zero_nothing c.args.name.now c.args.n c.if-n-ne0.false) wrote_nothing
