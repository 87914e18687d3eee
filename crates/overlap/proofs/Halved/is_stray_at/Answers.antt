use Rattle.overlap.proofs.TestLaws.{stray_there}
use Rattle.overlap.proofs.Halved.is_stray_at.Goals as goal

-- is_stray(self.sequence.keys[j], first, end, before, after)
pub returns : goal.returns
returns c =
    let args = c.args in
    let h = args.self in
    stray_there h.sequence.keys.now h.starts.now h.ends.now args.first args.end args.j h.halves c.requires
    c.wide-before.result c.wide-after.result c.is_stray.result c.wide-before.ensures.0 c.wide-after.ensures.0
    c.is_stray.ensures
