use mathlib.Core.Path.{sym}
use Rattle.granted_view.proofs.PartLaws.{whole_put, hidden_put}
use Rattle.granted_view.proofs.put_part.Goals as goal

-- draft.put(&t[head..end])
pub returns-then-inside : goal.returns-then-inside
returns-then-inside c =
    let args = c.args in
    λ b p a s. whole_put args.t.now b p a args.place s args.inside _ c.if-inside.true _ c.put.ensures

-- put_head(draft, &t[head..source])
pub put_head-requires : goal.put_head-requires
put_head-requires c =
    let (b, p, a, s) = c.requires in
    (p.head, sym s.head.is)

-- draft.put(&t[source..target])
pub returns-else-inside : goal.returns-else-inside
returns-else-inside c =
    let args = c.args in
    λ b p a s.
    hidden_put args.t.now b p a args.place s args.inside _ c.if-inside.false _ c.put_head.ensures _ c.put-else-inside.ensures
