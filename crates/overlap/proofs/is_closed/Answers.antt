use mathlib.Core.Path.{◌∙◌, sym, ap}
use Rattle.halves.proofs.Others.{key_there, view_there}
use Rattle.overlap.specs.Nine.{closed_start}
use Rattle.overlap.proofs.TestLaws.{not_start}
use Rattle.overlap.proofs.is_closed.Goals as goal

-- return false
pub returns-then-not-is_pair_start : goal.returns-then-not-is_pair_start
returns-then-not-is_pair_start c =
    let args = c.args in
    not_start args.t.now args.s.markers.now args.i c.requires.1 args.s.keys.now c.requires.0
    (sym c.is_pair_start.ensures ∙ c.if-not-is_pair_start.true)

-- keys::view_at(t, marks::wide(s.markers[i]), s.keys[i])
pub view_at-requires : goal.view_at-requires
view_at-requires c =
    let args = c.args in
    key_there args.t.now args.s.markers.now _ c.requires.0 args.i c.wide.result c.requires.1 c.wide.ensures.0

-- is_closed_start(keys::view_at(t, marks::wide(s.markers[i]), s.keys[i]))
pub returns : goal.returns
returns c =
    let args = c.args in
    c.is_closed_start.ensures
    ∙ ap closed_start
    (view_there args.t.now args.s.markers.now args.i c.wide.result c.view_at.result c.wide.ensures.0 c.view_at.ensures)
