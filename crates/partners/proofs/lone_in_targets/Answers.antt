use mathlib.Core.List.{[]}
use mathlib.Core.Bool.{false}
use mathlib.Core.Path.{sym, ◌∙◌, ap}
use Rattle.contents.specs.Contents.{barred, bar_keys}
use Rattle.answers.specs.Answers.{toward}
use Rattle.partners.proofs.ScanLaws.{none_blamed, none_lower}
use Rattle.partners.proofs.lone_in_targets.Goals as goal

-- start
pub returns : goal.returns
returns c =
    let args = c.args in
    let start = args.start in
    let t = args.t.now in
    sym (ap (toward 7 start) (none_blamed (bar_keys t (barred false t)) [] args.target.markers.now args.target.keys.now
    (sym c.any_lone.ensures ∙ c.if-any_lone.false))
    ∙ none_lower 7 start)
