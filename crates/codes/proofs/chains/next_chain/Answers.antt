use mathlib.Core.Path.{sym, ◌∙◌}
use mathlib.Core.Bool.{false}
use native.Mathlib.Omega.{arith}
use Rattle.codes.proofs.MarkerChains.{found_room, next_on, passed_start, passed_on}
use Rattle.codes.proofs.chains.next_chain.Goals as goal

-- records stand from `from` on
pub next_fixed-at-requires : goal.next_fixed-at-requires
next_fixed-at-requires c = c.requires

-- before the first fixed code
pub loop-at-init : goal.loop-at-init
loop-at-init c =
    let args = c.args in
    let next-fixed = c.next_fixed-at in (
      next-fixed.ensures.0,
      next-fixed.ensures.1,
      λ rs o. passed_start args.c.now rs args.from next-fixed.result next-fixed.ensures o,
    )

-- a fixed code or the end is there
pub goes_on-requires : goal.goes_on-requires
goes_on-requires c =
    let args = c.args in
    let (rs, o, l) = c.requires in
    let m = c.loop-at.invariant.2 rs o in
    found_room args.c.now m.from c.loop-at.at m.found

-- `at + marks::CODE_WIDTH`
pub overflow_add-at : goal.overflow_add-at
overflow_add-at c =
    let args = c.args in
    let loop = c.loop-at in
    let goes_on = c.goes_on in
    let if1 = c.loop-at-test.true in
    let (rs, o, l) = c.requires in
    let m = loop.invariant.2 rs o in
    omega (arith, (next_on args.c.now m.from loop.at m.found false (sym goes_on.ensures ∙ if1)).room)

-- records stand behind the N
pub next_fixed-at-requires-in-loop-at : goal.next_fixed-at-requires-in-loop-at
next_fixed-at-requires-in-loop-at c =
    let args = c.args in
    let loop = c.loop-at in
    let goes_on = c.goes_on in
    let if1 = c.loop-at-test.true in
    let (rs, o, l) = c.requires in
    let m = loop.invariant.2 rs o in
    let n = next_on args.c.now m.from loop.at m.found false (sym goes_on.ensures ∙ if1) in
    (n.others, n.rest, n.room)

-- the walk goes on
pub loop-at-smaller : goal.loop-at-smaller
loop-at-smaller c =
    let next-fixed2 = c.next_fixed-at-in-loop-at in
    omega (arith, next-fixed2.ensures.0, next-fixed2.ensures.1)

-- behind an N
pub loop-at-preserved : goal.loop-at-preserved
loop-at-preserved c =
    let args = c.args in
    let loop = c.loop-at in
    let goes_on = c.goes_on in
    let if1 = c.loop-at-test.true in
    let next-fixed2 = c.next_fixed-at-in-loop-at in (
      omega (arith, loop.invariant.0, next-fixed2.ensures.0),
      next-fixed2.ensures.1,
      λ rs o.
          passed_on args.c.now rs loop.at next-fixed2.result (loop.invariant.2 rs o)
          (sym goes_on.ensures ∙ if1) next-fixed2.ensures,
    )

-- no N is there
pub returns : goal.returns
returns c =
    let loop = c.loop-at in
    let goes_on = c.goes_on in
    let if1 = c.loop-at-test.false in
    (loop.invariant.0, loop.invariant.1, loop.invariant.2, sym goes_on.ensures ∙ if1)
