use mathlib.Core.Path.{ap₂}
use mathlib.Core.Bool.{not}
use Prim.Native.Nat.{ℕ}
use native.Mathlib.Omega.{arith}
use lib.Dec.{eqb}
use Rattle.xliff.proofs.operations.ChainCounts.{uneven}
use Rattle.codes.specs.Chains.{chains_in}
use Rattle.codes.proofs.MarkerChains.{next_chain}
use Rattle.codes.proofs.CountLaws.{looked_start, looked_on, looked_end}
use Rattle.codes.proofs.chains.uneven.Goals as goal

-- records stand in `c`
pub next_chain-at-requires : goal.next_chain-at-requires
next_chain-at-requires c = c.requires.0

-- before the first chain
pub loop-at-init : goal.loop-at-init
loop-at-init c =
    let args = c.args in
    let next_chain = c.next_chain-at in (
      next_chain.ensures.1,
      next_chain.ensures.3,
      λ rs qs o p.
          let test = uneven (chains_in rs) (chains_in qs) in
          looked_start test args.c.now rs next_chain.result next_chain.ensures o,
    )

-- records stand behind the F at `at`
pub often-requires : goal.often-requires
often-requires c =
    let args = c.args in
    let loop = c.loop-at in
    let loop-test = c.loop-at-test.true in
    let ((rs, o, l), (qs, p, k)) = c.requires in
    let m = loop.invariant.2 rs qs o p in
    let x = next_chain args.c.now m.from loop.at m.passed loop.invariant.1 loop-test in
    ((x.others, x.rest, x.room), c.requires.0)

-- the same, for the other content
pub often-requires-in-loop-at : goal.often-requires-in-loop-at
often-requires-in-loop-at c =
    let args = c.args in
    let loop = c.loop-at in
    let loop-test = c.loop-at-test.true in
    let ((rs, o, l), (qs, p, k)) = c.requires in
    let m = loop.invariant.2 rs qs o p in
    let x = next_chain args.c.now m.from loop.at m.passed loop.invariant.1 loop-test in
    ((x.others, x.rest, x.room), c.requires.1)

-- `at + marks::CODE_WIDTH`
pub overflow_add-at : goal.overflow_add-at
overflow_add-at c =
    let args = c.args in
    let loop = c.loop-at in
    let loop-test = c.loop-at-test.true in
    let ((rs, o, l), (qs, p, k)) = c.requires in
    let m = loop.invariant.2 rs qs o p in
    omega (arith, (next_chain args.c.now m.from loop.at m.passed loop.invariant.1 loop-test).room)

-- records stand behind the F
pub next_chain-at-requires-in-loop-at : goal.next_chain-at-requires-in-loop-at
next_chain-at-requires-in-loop-at c =
    let args = c.args in
    let loop = c.loop-at in
    let loop-test = c.loop-at-test.true in
    let ((rs, o, l), (qs, p, k)) = c.requires in
    let m = loop.invariant.2 rs qs o p in
    let x = next_chain args.c.now m.from loop.at m.passed loop.invariant.1 loop-test in
    (x.others, x.rest, x.room)

-- the walk goes on
pub loop-at-smaller : goal.loop-at-smaller
loop-at-smaller c =
    let next-chain2 = c.next_chain-at-in-loop-at in
    omega (arith, next-chain2.ensures.0, next-chain2.ensures.1)

-- behind one more chain: whether it stands as often in the other content
pub loop-at-preserved : goal.loop-at-preserved
loop-at-preserved c =
    let args = c.args in
    let loop = c.loop-at in
    let loop-test = c.loop-at-test.true in
    let often = c.often in
    let often2 = c.often-in-loop-at in
    let next-chain2 = c.next_chain-at-in-loop-at in (
      next-chain2.ensures.1,
      next-chain2.ensures.3,
      λ rs qs o p.
          let test = uneven (chains_in rs) (chains_in qs) in
          let m = loop.invariant.2 rs qs o p in
          let x = next_chain args.c.now m.from loop.at m.passed loop.invariant.1 loop-test in
          let here = often.ensures x.others rs x.rest o in
          let there = often2.ensures x.others qs x.rest p in
          looked_on test args.c.now rs loop.found loop.at m loop.invariant.1 loop-test next-chain2.result
          (not (eqb often.result often2.result)) (ap₂ (λ (n k : ℕ). not (eqb n k)) here there)
          next-chain2.ensures,
    )

-- no chain is left
pub returns : goal.returns
returns c =
    let args = c.args in
    let loop = c.loop-at in
    let loop-test = c.loop-at-test.false in
    λ rs qs o p.
    let test = uneven (chains_in rs) (chains_in qs) in
    looked_end test args.c.now rs loop.found loop.at (loop.invariant.2 rs qs o p) loop-test
