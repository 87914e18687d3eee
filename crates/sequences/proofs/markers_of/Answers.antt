use mathlib.Core.Path.{sym, ◌∙◌}
use Rattle.sequences.specs.Targets.{of_order, head_number}
use Rattle.sequences.proofs.FillLaws.{fill_none}
use Rattle.sequences.proofs.TargetLaws.{other_order}
use Rattle.sequences.proofs.markers_of.Goals as goal

-- return n
pub returns-then-q-heads : goal.returns-then-q-heads
returns-then-q-heads c =
    let args = c.args in
    let q = args.q in
    let t = args.t.now in
    let i = args.i in
    let pre = c.requires in
    fill_none args.out.now (of_order q (head_number t i)) args.n
    (other_order q (head_number t i) (λ z. c.if-q-heads.true (z ∙ sym (pre.6 i pre.3))))
