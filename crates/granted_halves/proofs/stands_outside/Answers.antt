use mathlib.Core.Path.{◌≡◌, sym, ◌∙◌}
use mathlib.Core.Bool.{true, false, ◌&&◌}
use borrow.Author.Tests.{not-true, not-false}
use Rattle.xliff.specs.Rules.{half_of_id}
use Rattle.places.specs.Markers.{item_at}
use Rattle.granted_halves.proofs.WalkLaws.{half_is}
use Rattle.granted_halves.proofs.stands_outside.Goals as goal

-- if !(inside & (!(v.half == 0) & (v.id == id))) { return false; }
pub returns-then-not-inside-v : goal.returns-then-not-inside-v
returns-then-not-inside-v c =
    let args = c.args in
    let item = item_at args.t.now args.at in
    let none : args.inside && half_of_id args.id item ≡ false =
    sym (half_is args.inside args.id item c.view_at-v.result c.view_at-v.ensures)
    ∙ not-true _ c.if-not-inside-v.true-raw in
    rw none

-- !grant.has_part(n)
pub returns : goal.returns
returns c =
    let args = c.args in
    let item = item_at args.t.now args.at in
    let half : args.inside && half_of_id args.id item ≡ true =
    sym (half_is args.inside args.id item c.view_at-v.result c.view_at-v.ensures)
    ∙ not-false _ c.if-not-inside-v.false-raw in
    rw (half, c.has_part.ensures)
