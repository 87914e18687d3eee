use borrow.Author.Tests.{not-true, not-false}
use mathlib.Core.Path.{sym, ◌∙◌}
use lib.ListN.{drop}
use Rattle.walk.specs.Kept.{items}
use Rattle.codes.proofs.LostLaws.{lost_none, lost_some}
use Rattle.codes.proofs.kept.is_lost_code.Goals as goal

-- the record may be removed
pub returns-then-not-is_non_removable : goal.returns-then-not-is_non_removable
returns-then-not-is_non_removable c =
    let args = c.args in
    let is-non-removable = c.is_non_removable in
    let if1 = c.if-not-is_non_removable.true-raw in
    λ qs o. sym (lost_none (items qs) (drop args.at args.old.now) (sym is-non-removable.ensures ∙ not-true _ if1))

-- it may not
pub returns : goal.returns
returns c =
    let args = c.args in
    let is-non-removable = c.is_non_removable in
    let if1 = c.if-not-is_non_removable.false-raw in
    let has_code = c.has_code in
    λ qs o. lost_some (items qs) (drop args.at args.old.now) _ (sym is-non-removable.ensures ∙ not-false _ if1)
    (has_code.ensures qs o)
