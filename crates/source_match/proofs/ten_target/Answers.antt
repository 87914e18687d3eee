use Rattle.halves.proofs.Others.{key_there, view_there}
use mathlib.Core.Path.{◌∙◌, refl, sym}
use Rattle.answers.proofs.Places.{blamed_end}
use Rattle.xliff.specs.Rules.{bad_10_target}
use Rattle.views.specs.Views.{items_of_markers}
use Rattle.source_match.proofs.TestLaws.{ten_target_bad}
use Rattle.halves.specs.Nearest.{earlier, marker_at}
use Rattle.halves.proofs.TwoSequences.{blamed_step}
use borrow.Author.Rules.{rules}
use Rattle.source_match.proofs.ten_target.Goals as goal

-- keys::view_at(t, at, keys[i])
pub view_at-requires : goal.view_at-requires
unfolding earlier
view_at-requires c =
    let args = c.args in
    let i = c.loop-i.i in
    let wide = c.wide-at in
    key_there args.t.now args.s.markers.now _ c.requires i wide.result c.loop-i-test.true
    wide.ensures.0

-- the loop's step
pub loop-i-preserved : goal.loop-i-preserved
unfolding earlier
loop-i-preserved c =
    let args = c.args in
    let t = args.t.now in
    let source-markers = args.source.sequence.markers.now in
    let markers = args.s.markers.now in
    let loop = c.loop-i in
    let i = loop.i in
    let loop-test = c.loop-i-test in
    let wide = c.wide-at in
    let bad-in-target = c.is_bad_in_target-bad in
    let view-at = c.view_at in
    let seen = view_there t markers i wide.result view-at.result wide.ensures.0 view-at.ensures in (
      search rules,
      loop.invariant.1
          ∙ blamed_step 10 (bad_10_target (items_of_markers args.source.t.now source-markers)) t markers i loop.best bad-in-target.result
          wide.result c.lower_if-best.result loop-test.true wide.ensures.0
          (ten_target_bad t markers i view-at.result bad-in-target.result seen (items_of_markers args.source.t.now source-markers) bad-in-target.ensures)
          c.lower_if-best.ensures,
    )

-- best
pub returns : goal.returns
unfolding earlier
returns c =
    let args = c.args in
    let t = args.t.now in
    let markers = args.s.markers.now in
    let loop = c.loop-i in
    sym (loop.invariant.1
    ∙ blamed_end (bad_10_target (items_of_markers args.source.t.now args.source.sequence.markers.now)) t markers (earlier (marker_at t markers) loop.i) loop.i
    loop.best 10 c.loop-i-test.false)

pub loop-i-init : goal.loop-i-init
unfolding earlier
loop-i-init c = (search rules, refl)
