use lib.ListN.{drop}
use mathlib.Core.Path.{◌∙◌}
use Rattle.xml_nesting.proofs.StepLaws.{step_known}
use Rattle.xml_nesting.proofs.step_at.Goals as goal

-- read_step(walker::known_at(t, at))
pub returns : goal.returns
returns c =
    let read_step_lem = c.read_step in
    let known_at_lem = c.known_at in
    let args = c.args in
    read_step_lem.ensures ∙ step_known (drop args.at args.t.now) known_at_lem.result known_at_lem.ensures
