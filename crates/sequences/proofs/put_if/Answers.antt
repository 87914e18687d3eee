use Rattle.sequences.proofs.MarkLaws.{put_room, put_more, put_none}
use Rattle.sequences.proofs.put_if.Goals as goal

-- out[m] = at
pub bounds-out-m : goal.bounds-out-m
bounds-out-m c = put_room _ _ _ _ c.if-b.true c.requires.0

-- return 1 + m
pub returns-then-b : goal.returns-then-b
returns-then-b c = put_more _ _ _ _ c.if-b.true (put_room _ _ _ _ c.if-b.true c.requires.0)

-- m
pub returns : goal.returns
returns c = put_none _ _ _ _ c.if-b.false
