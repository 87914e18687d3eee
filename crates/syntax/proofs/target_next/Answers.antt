use Rattle.syntax.proofs.target_next.Goals as goal

pub returns-in-InSource : goal.returns-in-InSource
returns-in-InSource c = simp c.in-InSource.is
