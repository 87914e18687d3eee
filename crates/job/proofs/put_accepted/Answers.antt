use Rattle.writer.specs.Pieces.{lead}
use Prim.Native.Nat.{ℕ}
use mathlib.Core.List.{List}
use mathlib.Core.Path.{ap, ◌∙◌}
use lib.ListN.{length, take}
use native.Mathlib.Omega.{arith}
use lib.Seq.{length-take-le}
use Rattle.job.proofs.StepLaws.{head_by, same_requests}
use Rattle.job.proofs.put_accepted.Goals as goal

-- put_requests(job, m, &mut table, out)
pub put_requests-requires : goal.put_requests-requires
put_requests-requires c =
    let pre = c.requires in
    let put = c.put-m in
    let l = put.ensures.0 ∙ length-take-le c.args.n c.args.job.now pre.0 in
    (omega (arith, l, pre.0), omega (arith, l, pre.1), pre.2)

-- put_requests(job, m, &mut table, out)
pub returns : goal.returns
returns c =
    let args = c.args in
    let n = args.n in
    let job = args.job.now in
    let put = c.put-m in
    let put-requests = c.put_requests in
    let l = put.ensures.0 ∙ length-take-le n job c.requires.0 in
    let e = same_requests job put.new.out put.result n l
    (head_by (take n job) _ put.new.out put.result put.ensures.0 put.ensures.1) in (
      put-requests.ensures.0 ∙ ap length e,
      put-requests.ensures.1 ∙ ap (λ (x : List ℕ). lead x args.out.now) e,
    )
