use mathlib.Core.Path.{sym, ◌∙◌}
use native.Mathlib.Omega.{arith}
use Rattle.walk.proofs.WalkLaws.{next}
use Rattle.walk.proofs.PlaceLaws.{along_start, along_on, along_stop, along_end}
use Rattle.walk.proofs.place_of.Goals as goal

-- before the first record
pub loop-at-init : goal.loop-at-init
loop-at-init c =
    let args = c.args in
    (omega arith, λ rs o. along_start args.c.now args.k rs o)

-- the next record ends within the content
pub overflow_add-next : goal.overflow_add-next
overflow_add-next c =
    let pre = c.requires in
    let args = c.args in
    let loop = c.loop-at in
    let loop-test = c.loop-at-test.true in
    let width_at = c.width_at in
    let (rs, o) = pre in
    let m = (loop.invariant.1 rs o).upto in
    omega (arith, (next args.c.now loop.at _ m.after loop-test m.rest width_at.ensures).fit)

-- the same
pub slice_bounds-pass_one-end : goal.slice_bounds-pass_one-end
slice_bounds-pass_one-end c =
    let pre = c.requires in
    let args = c.args in
    let loop = c.loop-at in
    let loop-test = c.loop-at-test.true in
    let width_at = c.width_at in
    let (rs, o) = pre in
    let m = (loop.invariant.1 rs o).upto in
    omega (arith, (next args.c.now loop.at _ m.after loop-test m.rest width_at.ensures).fit)

-- `&c[at..next]` is one record
pub pass_one-requires : goal.pass_one-requires
pass_one-requires c =
    let pre = c.requires in
    let args = c.args in
    let loop = c.loop-at in
    let loop-test = c.loop-at-test.true in
    let width_at = c.width_at in
    let (rs, o) = pre in
    let m = (loop.invariant.1 rs o).upto in
    let n = next args.c.now loop.at _ m.after loop-test m.rest width_at.ensures in
    (n.first, n.good, n.slice)

-- the item stands in the next record
pub returns-in-Stop : goal.returns-in-Stop
returns-in-Stop c =
    let args = c.args in
    let loop = c.loop-at in
    let loop-test = c.loop-at-test.true in
    let width_at = c.width_at in
    let pass-one = c.pass_one in
    λ rs o.
    let c₀ = args.c.now in
    let m = loop.invariant.1 rs o in
    let n = next c₀ loop.at _ m.upto.after loop-test m.upto.rest width_at.ensures in
    along_stop c₀ args.k rs loop.at _ loop.left _ m n (sym (pass-one.ensures n.first n.good n.slice) ∙ c.in-Stop.is)

-- the walk goes on
pub loop-at-smaller : goal.loop-at-smaller
loop-at-smaller c =
    let pre = c.requires in
    let args = c.args in
    let loop = c.loop-at in
    let loop-test = c.loop-at-test.true in
    let width_at = c.width_at in
    let (rs, o) = pre in
    let m = (loop.invariant.1 rs o).upto in
    let n = next args.c.now loop.at _ m.after loop-test m.rest width_at.ensures in
    omega (arith, n.fit, n.least)

-- the next record is passed over
pub loop-at-preserved : goal.loop-at-preserved
loop-at-preserved c =
    let args = c.args in
    let pre = c.requires in
    let loop = c.loop-at in
    let loop-test = c.loop-at-test.true in
    let width_at = c.width_at in
    let pass-one = c.pass_one in
    let c₀ = args.c.now in
    let at-now = loop.at in
    let (rs, o) = pre in
    let m = (loop.invariant.1 rs o).upto in (
      omega (arith, (next c₀ at-now _ m.after loop-test m.rest width_at.ensures).fit),
      λ rs o.
          let m = loop.invariant.1 rs o in
          let n = next c₀ at-now _ m.upto.after loop-test m.upto.rest width_at.ensures in
          along_on c₀ args.k rs at-now _ loop.left _ o m n (sym (pass-one.ensures n.first n.good n.slice) ∙ c.in-On.is),
    )

-- the content ends before the item
pub returns : goal.returns
returns c =
    let args = c.args in
    let loop = c.loop-at in
    let loop-test = c.loop-at-test.false in
    λ rs o. along_end args.c.now args.k rs loop.at loop.left loop-test (loop.invariant.1 rs o)
