use Rattle.xliff.specs.Unit.{target_items}
use Rattle.sheet_rows.proofs.PartLaws.{head_margined, part_put}
use Rattle.sheet_rows.proofs.put_part.Goals as goal

-- put_contents(draft, place.source_of(t), place.target_of(t))
pub put_contents-requires : goal.put_contents-requires
put_contents-requires c =
    let (b, p, a, s) = c.requires in
    ((p.source, c.source_of.ensures b p a s), (target_items p.target, c.target_of.ensures b p a s))

-- put_contents(draft, place.source_of(t), place.target_of(t))
pub returns : goal.returns
returns c =
    let args = c.args in
    let read = c.known_at in
    λ b p a s.
    let headed = head_margined args.t.now b p a args.place s args.n read.result read.ensures _ _
    c.put_head.ensures in
    part_put args.t.now b p a args.place s args.n _ _ headed _ _ (c.source_of.ensures b p a s)
    (c.target_of.ensures b p a s) _ c.put_contents.ensures
