use Rattle.heads.proofs.HeadLaws.{head_long, segment_read}
use native.Mathlib.Omega.{arith}
use lib.ListN.{length}
use mathlib.Core.Path.{ap, ◌∙◌}
use Rattle.heads.proofs.is_segment.Goals as goal

pub marked_by-requires : goal.marked_by-requires
marked_by-requires c =
    let pre = c.requires in
    omega (arith, ap length pre.1, head_long pre.0)

pub returns : goal.returns
returns c =
    let head = c.args.head.now in
    λ h e. c.marked_by.ensures ∙ segment_read head h e
