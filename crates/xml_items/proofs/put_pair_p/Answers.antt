use Prim.Native.Nat.{ℕ}
use mathlib.Core.Path.{sym, ap}
use Rattle.draft.proofs.DraftLaws.{wrote_as}
use Rattle.table.specs.Meaning.{fields}
use Rattle.xml.specs.Words.{'pc', codes}
use Rattle.xml.specs.Write.{item_text, opening_tag, closing_tag, pc_attributes}
use Rattle.xml_items.proofs.put_pair_p.Goals as goal

-- put_pc(draft, f, end_data)
pub returns-in-Start : goal.returns-in-Start
unfolding item_text
returns-in-Start c =
    let put-pc = c.put_pc in
    let args = c.args in
    rw c.in-Start.is
    (λ after e. wrote_as (ap (λ (n : ℕ). opening_tag 'pc' (pc_attributes (fields args.f) n)) (sym e)) put-pc.ensures)

-- draft.put(b"</pc>")
pub returns-in-End : goal.returns-in-End
unfolding item_text closing_tag 'pc' codes
returns-in-End c =
    let put = c.put in
    rw c.in-End.is (λ after e. put.ensures)
