use mathlib.Core.Path.{sym, ◌∙◌}
use native.Mathlib.Omega.{arith}
use Rattle.xliff.specs.Encode.{spell}
use Rattle.walk.proofs.WalkLaws.{next}
use Rattle.codes.proofs.FixedLaws.{sought_start, sought_on, sought_here, sought_nowhere}
use Rattle.codes.proofs.fixed.next_fixed.Goals as goal

-- before the first record
pub loop-at-init : goal.loop-at-init
loop-at-init c =
    let pre = c.requires in
    let args = c.args in
    (omega arith, pre.2, λ rs o. sought_start args.c.now rs args.from o)

-- the next record ends within the content
pub overflow_add-next : goal.overflow_add-next
overflow_add-next c =
    let pre = c.requires in
    let args = c.args in
    let loop = c.loop-at in
    let loop-test = c.loop-at-test.true in
    let width_at = c.width_at in
    let (rs, o, l) = pre in
    let m = loop.invariant.2 rs o in
    omega (arith, (next args.c.now loop.at _ m.after loop-test m.rest width_at.ensures).fit)

-- a record stands there
pub is_fixed-requires : goal.is_fixed-requires
is_fixed-requires c =
    let pre = c.requires in
    let args = c.args in
    let loop = c.loop-at in
    let loop-test = c.loop-at-test.true in
    let width_at = c.width_at in
    let (rs, o, l) = pre in
    let m = loop.invariant.2 rs o in
    let n = next args.c.now loop.at _ m.after loop-test m.rest width_at.ensures in
    (n.first, spell n.others, n.good, n.bytes)

-- it is a fixed code
pub returns-then-is_fixed : goal.returns-then-is_fixed
returns-then-is_fixed c =
    let args = c.args in
    let loop = c.loop-at in
    let is_fixed = c.is_fixed in
    let if1 = c.if-is_fixed.true in
    let inv = loop.invariant in
    (inv.0, inv.1, λ rs o. sought_here args.c.now rs loop.at (inv.2 rs o) (sym is_fixed.ensures ∙ if1))

-- the walk goes on
pub loop-at-smaller : goal.loop-at-smaller
loop-at-smaller c =
    let pre = c.requires in
    let args = c.args in
    let loop = c.loop-at in
    let loop-test = c.loop-at-test.true in
    let width_at = c.width_at in
    let (rs, o, l) = pre in
    let m = loop.invariant.2 rs o in
    let n = next args.c.now loop.at _ m.after loop-test m.rest width_at.ensures in
    omega (arith, n.fit, n.least)

-- behind a record that is not
pub loop-at-preserved : goal.loop-at-preserved
loop-at-preserved c =
    let args = c.args in
    let pre = c.requires in
    let loop = c.loop-at in
    let loop-test = c.loop-at-test.true in
    let width_at = c.width_at in
    let is_fixed = c.is_fixed in
    let if1 = c.if-is_fixed.false in
    let c₀ = args.c.now in
    let at-now = loop.at in
    let inv = loop.invariant in
    let (rs, o, l) = pre in
    let m = inv.2 rs o in
    let fit = (next c₀ at-now _ m.after loop-test m.rest width_at.ensures).fit in (
      omega (arith, inv.0),
      omega (arith, fit),
      λ rs o.
          let m = inv.2 rs o in
          let n = next c₀ at-now _ m.after loop-test m.rest width_at.ensures in
          sought_on c₀ rs at-now _ m n (sym is_fixed.ensures ∙ if1),
    )

-- no record is
pub returns : goal.returns
returns c =
    let args = c.args in
    let loop = c.loop-at in
    let loop-test = c.loop-at-test.false in
    let inv = loop.invariant in
    (inv.0, inv.1, λ rs o. sought_nowhere args.c.now rs loop.at (inv.2 rs o) loop-test)
