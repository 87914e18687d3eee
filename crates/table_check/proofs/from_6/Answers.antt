use Rattle.xliff.specs.Rules.{fault_6_to_10}
use Rattle.table_check.proofs.ChainLaws.{stops, goes_on}
use Rattle.table_check.proofs.from_6.Goals as goal

-- return Answer::Refused(6, at)
pub returns-in-Some : goal.returns-in-Some
unfolding fault_6_to_10
returns-in-Some c = stops c.args.t.now 6 c.in-Some.at _ c.in-Some.ensures _

-- by_markers(t, source.sequence(), target.sequence())
pub returns : goal.returns
unfolding fault_6_to_10
returns c = goes_on c.args.t.now _ c.in_default.ensures _ _ c.by_markers.ensures
