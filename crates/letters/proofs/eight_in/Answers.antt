use Rattle.halves.proofs.Others.{key_there, view_there}
use Rattle.letters.proofs.TestLaws.{eight_bad, led_on}
use Rattle.letters.specs.Eight.{bad_8}
use Rattle.halves.proofs.TwoSequences.{blamed_step}
use Rattle.halves.specs.Nearest.{earlier, marker_at}
use Rattle.xliff.specs.Bytes.{any}
use Rattle.answers.proofs.Places.{blamed_end}
use mathlib.Core.Path.{◌∙◌, refl, sym, ap}
use mathlib.Core.Bool.{Bool, ◌||◌}
use borrow.Author.Rules.{rules}
use Rattle.letters.proofs.eight_in.Goals as goal

-- the loop's start
pub loop-i-init : goal.loop-i-init
unfolding earlier any
loop-i-init c = (search rules, refl, refl)

-- keys::view_at(t, at, keys[i])
pub view_at-x-requires : goal.view_at-x-requires
unfolding earlier any
view_at-x-requires c =
    let args = c.args in
    let i = c.loop-i.i in
    let wide = c.wide-at in
    key_there args.t.now args.s.markers.now _ c.requires i wide.result c.loop-i-test.true
    wide.ensures.0

-- ill_ended(t, markers, keys, i, x)
pub ill_ended-requires : goal.ill_ended-requires
unfolding earlier any
ill_ended-requires c =
    let loop-test = c.loop-i-test in
    let wide = c.wide-at in (
      c.requires,
      loop-test.true,
      view_there c.args.t.now c.args.s.markers.now _ wide.result c.view_at-x.result wide.ensures.0
          c.view_at-x.ensures,
    )

-- the loop's step
pub loop-i-preserved : goal.loop-i-preserved
unfolding earlier any
loop-i-preserved c =
    let args = c.args in
    let t = args.t.now in
    let markers = args.s.markers.now in
    let source = args.source in
    let loop = c.loop-i in
    let led = loop.led in
    let i = loop.i in
    let inv = loop.invariant in
    let loop-test = c.loop-i-test in
    let wide = c.wide-at in
    let view-at = c.view_at-x in
    let ill_ended = c.ill_ended in
    let bad-alone = c.bad_alone in
    let lower-if = c.lower_if-best in
    let seen = view_there t markers i wide.result view-at.result wide.ensures.0 view-at.ensures in (
      search rules,
      ap (λ (b : Bool). b || led) c.is_leading-led.ensures ∙ led_on t markers i view-at.result led seen inv.1,
      inv.2
          ∙ blamed_step 8 (bad_8 source) t markers i loop.best (ill_ended.result || bad-alone.result) wide.result
          lower-if.result loop-test.true wide.ensures.0
          (eight_bad source t markers i view-at.result led ill_ended.result bad-alone.result seen inv.1
          ill_ended.ensures bad-alone.ensures) lower-if.ensures,
    )

-- best
pub returns : goal.returns
unfolding earlier any
returns c =
    let args = c.args in
    let t = args.t.now in
    let markers = args.s.markers.now in
    let loop = c.loop-i in
    sym (loop.invariant.2
    ∙ blamed_end (bad_8 args.source) t markers (earlier (marker_at t markers) loop.i) loop.i loop.best 8
    c.loop-i-test.false)
