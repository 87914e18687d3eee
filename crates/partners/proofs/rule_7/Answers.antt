use Rattle.partners.proofs.SevenLaws.{rule_7_is}
use Rattle.partners.proofs.rule_7.Goals as goal

-- lone_in_targets(t, target_markers, target_keys, lone_in_source(source_markers, source_keys, lone_in_contents ..
pub returns : goal.returns
returns c =
    let args = c.args in
    let pre = c.requires in
    let lone-in-contents = c.lone_in_contents in
    let lone-in-source = c.lone_in_source in
    rule_7_is args.t.now pre.0 args.source.markers.now args.source.keys.now args.target.markers.now args.target.keys.now
    lone-in-contents.result lone-in-source.result c.lone_in_targets.result pre.1 pre.2 pre.3
    pre.4 lone-in-contents.ensures lone-in-source.ensures c.lone_in_targets.ensures
