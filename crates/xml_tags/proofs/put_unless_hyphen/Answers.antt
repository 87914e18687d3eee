use Rattle.draft.proofs.DraftLaws.{wrote_nothing, wrote_as}
use Rattle.xml_tags.proofs.TagLaws.{hyphen_nothing, not_hyphen}
use Rattle.xml_tags.proofs.put_unless_hyphen.Goals as goal

-- put_yes_no(draft, name, letter)
pub returns-then-letter-ne45 : goal.returns-then-letter-ne45
returns-then-letter-ne45 c =
    wrote_as (not_hyphen c.args.name.now c.args.letter c.if-letter-ne45.true) c.put_yes_no.ensures

-- no attribute
pub returns-else-letter-ne45 : goal.returns-else-letter-ne45
returns-else-letter-ne45 c =
    wrote_as (hyphen_nothing c.args.name.now c.args.letter c.if-letter-ne45.false) wrote_nothing
