use mathlib.Core.Path.{◌∙◌}
use Rattle.job_table.proofs.SizeLaws.{end_is, end_short}
use Rattle.job_table.proofs.is_end.Goals as goal

-- return false
pub returns-then-t-lt2 : goal.returns-then-t-lt2
returns-then-t-lt2 c = end_short c.args.t.now c.if-t-lt2.true

-- marks::marked_by(t, b"UE")
pub returns : goal.returns
returns c =
    let t = c.args.t.now in
    c.marked_by.ensures ∙ end_is t c.if-t-lt2.false
