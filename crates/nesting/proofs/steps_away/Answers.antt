use Rattle.nesting.proofs.steps_away.Goals as goal

-- if back { i } else { n - (i + 1) }
pub returns-else-back : goal.returns-else-back
returns-else-back c = simp c.if-back.false
