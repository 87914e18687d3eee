use mathlib.Core.Path.{◌≡◌, ap, ◌∙◌}
use mathlib.Core.Bool.{Bool}
use Prim.Native.Nat.{◌+◌}
use native.Mathlib.Omega.{arith}
use Rattle.xliff.proofs.lists.Sum.{bit, bit_small}
use Rattle.codes.specs.Chains.{chain_at}
use Rattle.xliff.proofs.operations.ChainCounts.{like}
use Rattle.codes.proofs.MarkerChains.{next_chain}
use Rattle.codes.proofs.CountLaws.{counted_start, counted_on, counted_end}
use Rattle.codes.proofs.chains.often.Goals as goal
use Rattle.codes.proofs.chains.often.Goals.{then-same_chain, else-same_chain}

-- records stand in `d`
pub next_chain-to-requires : goal.next_chain-to-requires
next_chain-to-requires c = c.requires.1

-- before the first chain
pub loop-to-init : goal.loop-to-init
loop-to-init c =
    let args = c.args in
    let next_chain = c.next_chain-to in (
      next_chain.ensures.1,
      omega arith,
      next_chain.ensures.3,
      λ rs qs o p.
          let w = like (chain_at args.c.now args.at rs) in
          counted_start w args.d.now qs next_chain.result next_chain.ensures p,
    )

-- records stand behind both F
pub same_chain-requires : goal.same_chain-requires
same_chain-requires c =
    let args = c.args in
    let loop = c.loop-to in
    let loop-test = c.loop-to-test.true in
    let (behind, (qs, p, l)) = c.requires in
    let (rs, o, k) = behind in
    let m = loop.invariant.3 rs qs o p in
    let x = next_chain args.d.now m.from loop.to m.passed loop.invariant.2 loop-test in
    (behind, (x.others, x.rest, x.room))

-- `count += 1`
pub overflow_add-count : goal.overflow_add-count
overflow_add-count c =
    let loop = c.loop-to in
    let loop-test = c.loop-to-test.true in
    omega (arith, loop.invariant.1)

-- `to + marks::CODE_WIDTH`
pub overflow_add-to : goal.overflow_add-to
overflow_add-to c =
    let args = c.args in
    let loop = c.loop-to in
    let loop-test = c.loop-to-test.true in
    let ((rs, o, k), (qs, p, l)) = c.requires in
    let m = loop.invariant.3 rs qs o p in
    omega (arith, (next_chain args.d.now m.from loop.to m.passed loop.invariant.2 loop-test).room)

-- records stand behind the F
pub next_chain-to-requires-in-loop-to : goal.next_chain-to-requires-in-loop-to
next_chain-to-requires-in-loop-to c =
    let args = c.args in
    let loop = c.loop-to in
    let loop-test = c.loop-to-test.true in
    let ((rs, o, k), (qs, p, l)) = c.requires in
    let m = loop.invariant.3 rs qs o p in
    let x = next_chain args.d.now m.from loop.to m.passed loop.invariant.2 loop-test in
    (x.others, x.rest, x.room)

-- the walk goes on
pub loop-to-smaller : goal.loop-to-smaller
loop-to-smaller c =
    let next-chain2 = c.next_chain-to-in-loop-to in
    omega (arith, next-chain2.ensures.0, next-chain2.ensures.1)

-- all chains are counted
pub returns : goal.returns
returns c =
    let args = c.args in
    let loop = c.loop-to in
    let loop-test = c.loop-to-test.false in
    λ rs qs o p.
    let w = like (chain_at args.c.now args.at rs) in
    counted_end w args.d.now qs loop.count loop.to (loop.invariant.3 rs qs o p) loop-test

-- behind a chain, which was counted if it is the same
pub loop-to-preserved : goal.loop-to-preserved
loop-to-preserved c =
    let args = c.args in
    let loop = c.loop-to in
    let loop-test = c.loop-to-test.true in
    let same_chain = c.same_chain in
    let if1 = c.if-same_chain in
    let next-chain2 = c.next_chain-to-in-loop-to in
    let counted : if1.count ≡ loop.count + bit same_chain.result =
    elim if1.branch [
      | then-same_chain w ↦ (let t = ap bit w.if-same_chain.true in omega (arith, t, w.count-is))
      | else-same_chain w ↦ (let t = ap bit w.if-same_chain.false in omega (arith, t, w.count-is))
    ] in (
      next-chain2.ensures.1,
      omega (arith, loop.invariant.1, next-chain2.ensures.0, bit_small same_chain.result),
      next-chain2.ensures.3,
      λ rs qs o p.
          let m = loop.invariant.3 rs qs o p in
          let w = like (chain_at args.c.now args.at rs) in
          let x = next_chain args.d.now m.from loop.to m.passed loop.invariant.2 loop-test in
          counted_on w args.d.now qs loop.count loop.to m loop.invariant.2 loop-test
          if1.count next-chain2.result
          (counted ∙ ap (λ (b : Bool). loop.count + bit b) (same_chain.ensures rs x.others o x.rest))
          next-chain2.ensures,
    )
