use Rattle.writer.specs.Pieces.{lead}
use lib.ListN.{length}
use Rattle.xliff.specs.Answer as spec
use Rattle.xliff.specs.Desk.{line}
use Rattle.xliff.specs.Calls.{left}
use mathlib.Core.Path.{refl, ap, ◌∙◌}
use Rattle.job.proofs.StepLaws.{answer_fits, answer_keeps}
use Rattle.job.proofs.answer_request.Goals as goal

-- keep(table, n, a, &result)
pub keep-length-requires : goal.keep-length-requires
unfolding left
keep-length-requires c =
    let pre = c.requires in
    let perform = c.perform-a in
    let whole = perform.auto.out in
    (pre.0, answer_fits _ perform.result _ _ perform.ensures refl whole)

-- the end
pub returns : goal.returns
unfolding left
returns c =
    let args = c.args in
    let perform = c.perform-a in
    let put-line = c.put_line-printed in
    let keep = c.keep-length in
    let e = perform.ensures.0 in
    record {
      prints = put-line.ensures.0 ∙ ap (λ (x : spec.Answer). length (line x)) e;
      wrote = put-line.ensures.1 ∙ ap (λ (x : spec.Answer). lead (line x) args.out.now) e;
      short = put-line.ensures.2;
      leaves = keep.ensures.0
          ∙ answer_keeps _ perform.result args.n args.table.now _ _ perform.ensures;
      fits = keep.ensures.1;
    }
