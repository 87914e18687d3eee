use Rattle.draft.proofs.DraftLaws.{wrote_as}
use Rattle.table.specs.Meaning.{fields, half}
use Rattle.xml_items.proofs.ItemLaws.{pair_any}
use Rattle.xml_items.proofs.put_pair.Goals as goal

-- put_pair_p(draft, h, f, end_data)
pub returns-in-P : goal.returns-in-P
returns-in-P c =
    let put-pair-p = c.put_pair_p in
    rw c.in-P.is put-pair-p.ensures

-- put_pair_s(draft, h, f)
pub returns-in-S : goal.returns-in-S
returns-in-S c =
    let put-pair-s = c.put_pair_s in
    let args = c.args in
    rw c.in-S.is (λ after e. wrote_as (pair_any (half args.h) (fields args.f) after) put-pair-s.ensures)
