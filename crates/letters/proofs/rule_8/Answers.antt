use Rattle.letters.proofs.Marks.{on_8_source, on_8_target}
use Rattle.halves.proofs.TwoSequences.{two_sequences}
use Rattle.sequences.specs.Marks.{offsets}
use Rattle.xliff.specs.Rules.{fault_8, bad_8_source, bad_8_target}
use Rattle.letters.proofs.rule_8.Goals as goal

-- eight_in(t, false, target, eight_in(t, true, source, None))
pub returns : goal.returns
unfolding fault_8 offsets
returns c =
    let args = c.args in
    let pre = c.requires in
    let in_source = c.eight_in in
    let in_target = c.eight_in-2 in
    two_sequences 8 bad_8_source bad_8_target on_8_source on_8_target args.t.now args.source.markers.now
    args.target.markers.now in_source.result in_target.result pre.0 pre.1 pre.3 in_source.ensures
    in_target.ensures
