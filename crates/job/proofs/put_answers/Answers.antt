use Rattle.writer.specs.Pieces.{lead}
use Prim.Native.Nat.{ℕ}
use mathlib.Core.List.{List}
use mathlib.Core.Path.{sym, ap, ◌∙◌}
use lib.ListN.{length, take}
use native.Mathlib.Omega.{arith}
use lib.Seq.{length-take-le}
use Rattle.job.proofs.RunLaws.{job_accepted, job_refused, accepted_small}
use Rattle.job.proofs.put_answers.Goals as goal

-- put_accepted(job, n, out)
pub put_accepted-requires : goal.put_accepted-requires
put_accepted-requires c =
    let args = c.args in
    let n = args.n in
    let job = args.job.now in
    let pre = c.requires in
    let v = accepted_small (take n job) _ (rw c.in-Accepted.is at pre.3) in
    (pre.1, omega (arith, v, length-take-le n job pre.1), pre.2)

pub returns-in-Accepted : goal.returns-in-Accepted
returns-in-Accepted c =
    let args = c.args in
    let pre = c.requires in
    let put-accepted = c.put_accepted in
    let e = job_accepted args.job.now args.n pre.0 _ (rw c.in-Accepted.is at pre.3) in (
      put-accepted.ensures.0 ∙ ap length (sym e),
      put-accepted.ensures.1 ∙ ap (λ (l : List ℕ). lead l args.out.now) (sym e),
    )

pub returns-in-Refused : goal.returns-in-Refused
returns-in-Refused c =
    let args = c.args in
    let pre = c.requires in
    let printed = rw c.in-Refused.is at c.put_line.ensures in
    let e = job_refused args.job.now args.n pre.0 _ _ (rw c.in-Refused.is at pre.3) in (
      printed.0 ∙ ap length (sym e),
      printed.1 ∙ ap (λ (l : List ℕ). lead l args.out.now) (sym e),
    )
