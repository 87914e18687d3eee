use Rattle.part_at.proofs.order_in.Goals as goal

pub returns-in-Target : goal.returns-in-Target
returns-in-Target c = simp c.in-Target.is
