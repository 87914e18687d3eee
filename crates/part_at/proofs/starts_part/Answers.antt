use lib.ListN.{drop}
use mathlib.Core.Path.{◌∙◌}
use Rattle.part_at.proofs.ContentLaws.{part_known}
use Rattle.part_at.proofs.starts_part.Goals as goal

-- syntax::is_part(walker::known_at(t, at))
pub returns : goal.returns
returns c =
    let args = c.args in
    let known_at_lem = c.known_at in
    c.is_part.ensures ∙ part_known (drop args.at args.t.now) known_at_lem.result known_at_lem.ensures
