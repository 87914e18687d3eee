use mathlib.Core.Path.{refl, ◌∙◌}
use native.Mathlib.Omega.{arith}
use Rattle.xliff.proofs.lists.Sum.{one, sum_one}
use Rattle.codes.specs.Chains.{chains_in}
use Rattle.codes.proofs.MarkerChains.{next_chain}
use Rattle.codes.proofs.CountLaws.{counted_start, counted_on, counted_end}
use Rattle.codes.proofs.chains.chain_count.Goals as goal

-- records stand in `c`
pub next_chain-at-requires : goal.next_chain-at-requires
next_chain-at-requires c = c.requires

-- before the first chain
pub loop-at-init : goal.loop-at-init
loop-at-init c =
    let args = c.args in
    let next_chain = c.next_chain-at in (
      next_chain.ensures.1,
      omega arith,
      next_chain.ensures.3,
      λ rs o. counted_start one args.c.now rs next_chain.result next_chain.ensures o,
    )

-- `count += 1`
pub overflow_add-count : goal.overflow_add-count
overflow_add-count c =
    let loop = c.loop-at in
    let loop-test = c.loop-at-test.true in
    omega (arith, loop.invariant.1)

-- `at + marks::CODE_WIDTH`
pub overflow_add-at : goal.overflow_add-at
overflow_add-at c =
    let args = c.args in
    let loop = c.loop-at in
    let loop-test = c.loop-at-test.true in
    let (rs, o, l) = c.requires in
    let m = loop.invariant.3 rs o in
    let x = next_chain args.c.now m.from loop.at m.passed loop.invariant.2 loop-test in
    omega (arith, x.room)

-- records stand behind the F
pub next_chain-at-requires-in-loop-at : goal.next_chain-at-requires-in-loop-at
next_chain-at-requires-in-loop-at c =
    let args = c.args in
    let loop = c.loop-at in
    let loop-test = c.loop-at-test.true in
    let (rs, o, l) = c.requires in
    let m = loop.invariant.3 rs o in
    let x = next_chain args.c.now m.from loop.at m.passed loop.invariant.2 loop-test in
    (x.others, x.rest, x.room)

-- the walk goes on
pub loop-at-smaller : goal.loop-at-smaller
loop-at-smaller c =
    let next-chain2 = c.next_chain-at-in-loop-at in
    omega (arith, next-chain2.ensures.0, next-chain2.ensures.1)

-- behind one more
pub loop-at-preserved : goal.loop-at-preserved
loop-at-preserved c =
    let args = c.args in
    let loop = c.loop-at in
    let loop-test = c.loop-at-test.true in
    let next-chain2 = c.next_chain-at-in-loop-at in (
      next-chain2.ensures.1,
      omega (arith, loop.invariant.1, next-chain2.ensures.0),
      next-chain2.ensures.3,
      λ rs o.
          counted_on one args.c.now rs loop.count loop.at (loop.invariant.3 rs o) loop.invariant.2 loop-test
          _ next-chain2.result refl next-chain2.ensures,
    )

-- all chains are counted
pub returns : goal.returns
returns c =
    let args = c.args in
    let loop = c.loop-at in
    let loop-test = c.loop-at-test.false in
    λ rs o.
    counted_end one args.c.now rs loop.count loop.at (loop.invariant.3 rs o) loop-test ∙ sum_one (chains_in rs)
