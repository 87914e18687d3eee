use Rattle.syntax.proofs.item_next.Goals as goal

pub returns-in-InSource : goal.returns-in-InSource
returns-in-InSource c = simp (c.in-InSource.is, c.step_if.ensures)

pub returns-in-InTarget : goal.returns-in-InTarget
returns-in-InTarget c = simp (c.in-InTarget.is, c.step_if-in-InTarget.ensures)

pub returns-in-Alone : goal.returns-in-Alone
returns-in-Alone c = simp (c.in-Alone.is, c.step_if-in-Alone.ensures)
