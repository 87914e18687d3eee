use Rattle.table.proofs.WidthLaws.{width_is, no_width}
use Rattle.table.proofs.known_width.Goals as goal

-- a good record
pub returns-in-Good : goal.returns-in-Good
returns-in-Good c =
    let t = c.args.t.now in
    let known = c.shared_slice_known-1.given in
    let Read-of = c.read_of in
    width_is t Read-of.result _ known Read-of.ensures (simp c.in-Good.is)

-- an ill text, or no record
pub returns-in-Ill : goal.returns-in-Ill
returns-in-Ill c =
    let t = c.args.t.now in
    let known = c.shared_slice_known-1.given in
    let Read-of = c.read_of in
    width_is t Read-of.result _ known Read-of.ensures
    (no_width c.in-Ill.is)
