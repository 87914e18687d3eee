use Rattle.draft.proofs.DraftLaws.{wrote_then, wrote_as}
use Rattle.xml_tags.proofs.TagLaws.{one_attribute}
use Rattle.xml_tags.proofs.put_attribute.Goals as goal

-- the five pieces
pub returns : goal.returns
returns c =
    let put5 = c.put-5 in
    let put4 = c.put-4 in
    let put3 = c.put-3 in
    let put2 = c.put-2 in
    let put = c.put in
    let args = c.args in
    wrote_as (one_attribute args.name.now args.value.now)
    (wrote_then put.ensures
    (wrote_then put2.ensures (wrote_then put3.ensures (wrote_then put4.ensures put5.ensures))))
