use Rattle.marks.specs.Marks.{meaning}
use Rattle.walk.proofs.PlaceLaws.{one_least}
use Rattle.cut.proofs.CutLaws.{cut_written}
use Rattle.cut.proofs.put_cut_one.Goals as goal

-- the record has four bytes
pub is_parted-requires : goal.is_parted-requires
is_parted-requires c =
    let pre = c.requires in
    (one_least c.args.t.now pre.0, pre.2)

-- the mark is that of the record, and there is room
pub put_turned-requires : goal.put_turned-requires
put_turned-requires c =
    let pre = c.requires in
    (pre.1, one_least c.args.t.now pre.0, pre.3)

-- the record cut
pub returns : goal.returns
returns c =
    let args = c.args in
    let put-turned = c.put_turned in
    λ r qs g e o.
    cut_written r qs args.t.now args.out.now put-turned.new.out (meaning args.m) c.is_parted.result
    g e c.requires.1 (c.is_parted.ensures qs o) put-turned.ensures
