use Rattle.std.specs.Prelude.{Some}
use mathlib.Core.Path.{sym, ◌∙◌}
use native.Mathlib.Omega.{arith}
use Rattle.walk.specs.Marks.{is_other}
use Rattle.walk.proofs.WalkLaws.{next, search_start, other_found, other_on, other_none}
use Rattle.walk.proofs.has_half.Goals as goal

-- before the first record
pub loop-at-init : goal.loop-at-init
loop-at-init c =
    let args = c.args in
    (omega arith, λ rs o. search_start (is_other (Some args.kind) args.id) args.c.now rs o)

-- the next record ends within the content
pub overflow_add-next : goal.overflow_add-next
overflow_add-next c =
    let pre = c.requires in
    let args = c.args in
    let loop = c.loop-at in
    let loop-test = c.loop-at-test.true in
    let width_at = c.width_at in
    let (rs, o) = pre in
    let m = loop.invariant.1 rs o in
    omega (arith, (next args.c.now loop.at _ m.after loop-test m.rest width_at.ensures).fit)

-- four bytes of it are there
pub other_at-requires : goal.other_at-requires
other_at-requires c =
    let pre = c.requires in
    let args = c.args in
    let loop = c.loop-at in
    let loop-test = c.loop-at-test.true in
    let width_at = c.width_at in
    let (rs, o) = pre in
    let m = loop.invariant.1 rs o in
    let n = next args.c.now loop.at _ m.after loop-test m.rest width_at.ensures in
    omega (arith, n.fit, n.least)

-- it is the other half
pub returns-then-other_at : goal.returns-then-other_at
returns-then-other_at c =
    let args = c.args in
    let loop = c.loop-at in
    let loop-test = c.loop-at-test.true in
    let width_at = c.width_at in
    let other_at = c.other_at in
    let if1 = c.if-other_at.true in
    λ rs o.
    let c₀ = args.c.now in
    let m = loop.invariant.1 rs o in
    let n = next c₀ loop.at _ m.after loop-test m.rest width_at.ensures in
    other_found (Some args.kind) args.id c₀ rs loop.at _ m n (sym other_at.ensures ∙ if1)

-- the walk goes on
pub loop-at-smaller : goal.loop-at-smaller
loop-at-smaller c =
    let pre = c.requires in
    let args = c.args in
    let loop = c.loop-at in
    let loop-test = c.loop-at-test.true in
    let width_at = c.width_at in
    let (rs, o) = pre in
    let m = loop.invariant.1 rs o in
    let n = next args.c.now loop.at _ m.after loop-test m.rest width_at.ensures in
    omega (arith, n.fit, n.least)

-- behind a record that is not the other half
pub loop-at-preserved : goal.loop-at-preserved
loop-at-preserved c =
    let args = c.args in
    let pre = c.requires in
    let loop = c.loop-at in
    let loop-test = c.loop-at-test.true in
    let width_at = c.width_at in
    let other_at = c.other_at in
    let if1 = c.if-other_at.false in
    let c₀ = args.c.now in
    let at-now = loop.at in
    let (rs, o) = pre in
    let m = loop.invariant.1 rs o in (
      omega (arith, (next c₀ at-now _ m.after loop-test m.rest width_at.ensures).fit),
      λ rs o.
          let m = loop.invariant.1 rs o in
          let n = next c₀ at-now _ m.after loop-test m.rest width_at.ensures in
          other_on (Some args.kind) args.id c₀ rs at-now _ m n (sym other_at.ensures ∙ if1),
    )

-- no record is
pub returns : goal.returns
returns c =
    let args = c.args in
    let loop = c.loop-at in
    let loop-test = c.loop-at-test.false in
    λ rs o. other_none (Some args.kind) args.id args.c.now rs loop.at loop-test (loop.invariant.1 rs o)
