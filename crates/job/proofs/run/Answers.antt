use Rattle.xliff.specs.Desk.{desk}
use native.Mathlib.Omega.{arith}
use mathlib.Core.Path.{sym}
use lib.Seq.{length-take-le}
use Rattle.job.proofs.RunLaws.{whole_job}
use Rattle.job.proofs.run.Goals as goal

-- &job[..65535]
pub slice_bounds-run_job-end : goal.slice_bounds-run_job-end
unfolding desk
slice_bounds-run_job-end c =
    let job = c.args.job.now in
    sym (length-take-le 65535 job (omega (arith, c.if-job-gt65535.true)))

-- run_job(&job[..65535], out)
pub run_job-requires : goal.run_job-requires
unfolding desk
run_job-requires c =
    omega (arith, length-take-le 65535 c.args.job.now (omega (arith, c.if-job-gt65535.true)))

-- run_job(job, out)
pub returns-clause-value : goal.returns-clause-value
unfolding desk
returns-clause-value c =
    let args = c.args in
    let run_job = c.run_job-2 in
    whole_job args.job.now args.out.now run_job.new.out run_job.result c.if-job-gt65535.false run_job.ensures.0
    run_job.ensures.1

-- return run_job(&job[..65535], out)
pub returns-then-job-gt65535-clause-value : goal.returns-then-job-gt65535-clause-value
unfolding desk
returns-then-job-gt65535-clause-value c = (c.run_job.ensures.0, c.run_job.ensures.1)
