use Rattle.draft.proofs.DraftLaws.{wrote_nothing, wrote_then, wrote_as}
use Rattle.xliff.specs.Bytes.{gather}
use Rattle.xml_text.proofs.EscapeLaws.{one_more, all_bytes}
use Rattle.xml_text.proofs.put_text.Goals as goal

-- before the first byte
pub loop-b-init : goal.loop-b-init
unfolding gather
loop-b-init c = wrote_nothing

-- put_escaped(draft, *b)
pub loop-b-preserved : goal.loop-b-preserved
loop-b-preserved c =
    let put_escaped = c.put_escaped in
    let loop = c.loop-b in
    wrote_as (one_more c.args.text.now loop.b-index c.loop-b-test.true) (wrote_then loop.invariant put_escaped.ensures)

-- the whole text
pub returns : goal.returns
returns c =
    let loop = c.loop-b in
    wrote_as (all_bytes c.args.text.now loop.b-index c.loop-b-test.false loop.auto.b-index-end) loop.invariant
