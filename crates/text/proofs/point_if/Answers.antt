use Rattle.text.proofs.point_if.Goals as goal

-- if ok { point_of(c, w) } else { None }
pub returns-then-ok : goal.returns-then-ok
returns-then-ok c = simp (c.if-ok.true, c.point_of.ensures)

-- else { None }
pub returns-else-ok : goal.returns-else-ok
returns-else-ok c = simp c.if-ok.false
