use Rattle.overlap.proofs.Marks.{on_9}
use Rattle.halves.proofs.TwoSequences.{two_sequences}
use Rattle.sequences.specs.Marks.{offsets}
use Rattle.xliff.specs.Rules.{fault_9, bad_9}
use Rattle.overlap.proofs.rule_9.Goals as goal

-- nine_in(t, target, nine_in(t, source, None))
pub returns : goal.returns
unfolding fault_9 offsets
returns c =
    let args = c.args in
    let pre = c.requires in
    let nine-in = c.nine_in in
    two_sequences 9 bad_9 bad_9 on_9 on_9 args.t.now args.source.markers.now args.target.markers.now nine-in.result
    c.nine_in-2.result pre.0 pre.1 pre.3 nine-in.ensures c.nine_in-2.ensures
