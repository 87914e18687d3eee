use mathlib.Core.Path.{◌∙◌}
use Rattle.views.proofs.ViewLaws.{view_known}
use Rattle.views.proofs.view_at.Goals as goal

-- read_view(walker::known_at(t, at))
pub returns : goal.returns
returns c =
    let args = c.args in
    let known_at_lem = c.known_at in
    c.read_view.ensures ∙ view_known args.t.now args.at known_at_lem.result known_at_lem.ensures
