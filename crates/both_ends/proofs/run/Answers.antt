use Rattle.both_ends.proofs.ProgramLaws.{input_meets}
use Rattle.both_ends.proofs.run.Goals as goal

-- job::run(job, out)
pub returns-clause-meets : goal.returns-clause-meets
returns-clause-meets c = input_meets c.args.job.now c.type_inv.job
