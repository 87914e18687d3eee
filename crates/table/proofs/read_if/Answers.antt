use Rattle.table.proofs.read_if.Goals as goal

-- the fields are good
pub returns-then-ok : goal.returns-then-ok
returns-then-ok c = simp c.if-ok.true

-- they are not
pub returns-else-ok : goal.returns-else-ok
returns-else-ok c = simp c.if-ok.false
