use Rattle.syntax.proofs.step_if.Goals as goal

-- if bad { Err(3) } else { Ok(st) }
pub returns-else-bad : goal.returns-else-bad
returns-else-bad c = simp c.if-bad.false
