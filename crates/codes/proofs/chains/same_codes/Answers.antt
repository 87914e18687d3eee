use mathlib.Core.Bool.{not}
use mathlib.Core.Path.{sym, ap, ◌∙◌}
use native.Mathlib.Omega.{arith}
use borrow.Author.Tests.{not-true, not-false}
use Rattle.codes.proofs.MarkerChains.{compared_start, our_room, their_room, our_next, their_next, compared_short, compared_off, compared_on, compared_end}
use Rattle.codes.proofs.chains.same_codes.Goals as goal

-- records stand from `at` on
pub next_fixed-i-requires : goal.next_fixed-i-requires
next_fixed-i-requires c = c.requires.0

-- and from `to` on
pub next_fixed-j-requires : goal.next_fixed-j-requires
next_fixed-j-requires c = c.requires.1

-- before the first codes
pub loop-at-init : goal.loop-at-init
loop-at-init c =
    let next-fixed = c.next_fixed-i in
    let next-fixed2 = c.next_fixed-j in (
      next-fixed.ensures.1,
      next-fixed2.ensures.1,
      λ rs qs o p. compared_start _ _ _ rs qs _ _ _ _ o p next-fixed.ensures next-fixed2.ensures,
    )

-- a fixed code of `c`, or its end, is at i
pub goes_on-requires : goal.goes_on-requires
goes_on-requires c =
    let args = c.args in
    let ((rs, o, l), (qs, p, k)) = c.requires in
    our_room args.whole args.c.now args.d.now rs qs c.loop-at.i c.loop-at.j (c.loop-at.invariant.2 rs qs o p)

-- a fixed code of `d`, or its end, is at j
pub goes_on-requires-in-loop-at : goal.goes_on-requires-in-loop-at
goes_on-requires-in-loop-at c =
    let args = c.args in
    let loop = c.loop-at in
    let ((rs, o, l), (qs, p, k)) = c.requires in
    their_room args.whole args.c.now args.d.now rs qs loop.i loop.j (loop.invariant.2 rs qs o p)

-- a code in `c`, none in `d`
pub returns-then-not-goes_on : goal.returns-then-not-goes_on
returns-then-not-goes_on c =
    let args = c.args in
    let loop = c.loop-at in
    let goes_on = c.goes_on in
    let if1 = c.loop-at-test.true in
    let ours = sym goes_on.ensures ∙ if1 in
    let goes-on2 = c.goes_on-in-loop-at in
    let if2 = c.if-not-goes_on.true-raw in
    let theirs = sym goes-on2.ensures ∙ not-true _ if2 in
    λ rs qs o p.
    let m = loop.invariant.2 rs qs o p in
    compared_short args.whole args.c.now args.d.now rs qs loop.i loop.j m ours theirs

-- both codes are there
pub same_fixed-requires : goal.same_fixed-requires
same_fixed-requires c =
    let args = c.args in
    let loop = c.loop-at in
    let goes_on = c.goes_on in
    let if1 = c.loop-at-test.true in
    let ours = sym goes_on.ensures ∙ if1 in
    let goes-on2 = c.goes_on-in-loop-at in
    let if2 = c.if-not-goes_on.false-raw in
    let theirs = sym goes-on2.ensures ∙ not-false _ if2 in
    let ((rs, o, l), (qs, p, k)) = c.requires in
    let m = loop.invariant.2 rs qs o p in
    let n = our_next args.whole args.c.now args.d.now rs qs loop.i loop.j m ours in
    let n' = their_next args.whole args.c.now args.d.now rs qs loop.i loop.j m theirs in
    (omega (arith, n.room), omega (arith, n'.room))

-- they are not the same
pub returns-then-not-same_fixed : goal.returns-then-not-same_fixed
returns-then-not-same_fixed c =
    let args = c.args in
    let loop = c.loop-at in
    let goes_on = c.goes_on in
    let if1 = c.loop-at-test.true in
    let ours = sym goes_on.ensures ∙ if1 in
    let goes-on2 = c.goes_on-in-loop-at in
    let if2 = c.if-not-goes_on.false-raw in
    let theirs = sym goes-on2.ensures ∙ not-false _ if2 in
    let same_fixed = c.same_fixed in
    let if3 = c.if-not-same_fixed.true-raw in
    let apart = sym same_fixed.ensures ∙ not-true _ if3 in
    λ rs qs o p.
    let m = loop.invariant.2 rs qs o p in
    compared_off args.whole args.c.now args.d.now rs qs loop.i loop.j m ours theirs apart

-- `i + marks::CODE_WIDTH`
pub overflow_add-i : goal.overflow_add-i
overflow_add-i c =
    let args = c.args in
    let loop = c.loop-at in
    let goes_on = c.goes_on in
    let if1 = c.loop-at-test.true in
    let ours = sym goes_on.ensures ∙ if1 in
    let ((rs, o, l), (qs, p, k)) = c.requires in
    let m = loop.invariant.2 rs qs o p in
    omega (arith, (our_next args.whole args.c.now args.d.now rs qs loop.i loop.j m ours).room)

-- records stand behind the code of `c`
pub next_fixed-i-requires-in-loop-at : goal.next_fixed-i-requires-in-loop-at
next_fixed-i-requires-in-loop-at c =
    let args = c.args in
    let loop = c.loop-at in
    let goes_on = c.goes_on in
    let if1 = c.loop-at-test.true in
    let ours = sym goes_on.ensures ∙ if1 in
    let ((rs, o, l), (qs, p, k)) = c.requires in
    let m = loop.invariant.2 rs qs o p in
    let n = our_next args.whole args.c.now args.d.now rs qs loop.i loop.j m ours in
    (n.others, n.rest, n.room)

-- `j + marks::CODE_WIDTH`
pub overflow_add-j : goal.overflow_add-j
overflow_add-j c =
    let args = c.args in
    let loop = c.loop-at in
    let goes-on2 = c.goes_on-in-loop-at in
    let if2 = c.if-not-goes_on.false-raw in
    let theirs = sym goes-on2.ensures ∙ not-false _ if2 in
    let ((rs, o, l), (qs, p, k)) = c.requires in
    let m = loop.invariant.2 rs qs o p in
    omega (arith, (their_next args.whole args.c.now args.d.now rs qs loop.i loop.j m theirs).room)

-- records stand behind the code of `d`
pub next_fixed-j-requires-in-loop-at : goal.next_fixed-j-requires-in-loop-at
next_fixed-j-requires-in-loop-at c =
    let args = c.args in
    let loop = c.loop-at in
    let goes-on2 = c.goes_on-in-loop-at in
    let if2 = c.if-not-goes_on.false-raw in
    let theirs = sym goes-on2.ensures ∙ not-false _ if2 in
    let ((rs, o, l), (qs, p, k)) = c.requires in
    let m = loop.invariant.2 rs qs o p in
    let n = their_next args.whole args.c.now args.d.now rs qs loop.i loop.j m theirs in
    (n.others, n.rest, n.room)

-- the walk goes on
pub loop-at-smaller : goal.loop-at-smaller
loop-at-smaller c =
    let next-fixed3 = c.next_fixed-i-in-loop-at in
    omega (arith, next-fixed3.ensures.0, next-fixed3.ensures.1)

-- behind two codes that are the same
pub loop-at-preserved : goal.loop-at-preserved
loop-at-preserved c =
    let args = c.args in
    let loop = c.loop-at in
    let goes_on = c.goes_on in
    let if1 = c.loop-at-test.true in
    let goes-on2 = c.goes_on-in-loop-at in
    let if2 = c.if-not-goes_on.false-raw in
    let same_fixed = c.same_fixed in
    let if3 = c.if-not-same_fixed.false-raw in
    let next-fixed3 = c.next_fixed-i-in-loop-at in
    let next-fixed4 = c.next_fixed-j-in-loop-at in
    let ours = sym goes_on.ensures ∙ if1 in
    let theirs = sym goes-on2.ensures ∙ not-false _ if2 in
    let same = sym same_fixed.ensures ∙ not-false _ if3 in (
      next-fixed3.ensures.1,
      next-fixed4.ensures.1,
      λ rs qs o p.
          compared_on args.whole args.c.now args.d.now rs qs loop.i loop.j (loop.invariant.2 rs qs o p)
          next-fixed3.result next-fixed4.result ours theirs same next-fixed3.ensures next-fixed4.ensures,
    )

-- a fixed code of `d`, or its end, is at j
pub goes_on-requires-2 : goal.goes_on-requires-2
goes_on-requires-2 c =
    let args = c.args in
    let loop = c.loop-at in
    let ((rs, o, l), (qs, p, k)) = c.requires in
    their_room args.whole args.c.now args.d.now rs qs loop.i loop.j (loop.invariant.2 rs qs o p)

-- no code more in `c`
pub returns : goal.returns
returns c =
    let args = c.args in
    let loop = c.loop-at in
    let goes_on = c.goes_on in
    let if1 = c.loop-at-test.false in
    let over = sym goes_on.ensures ∙ if1 in
    let goes-on3 = c.goes_on-2 in
    λ rs qs o p.
    ap not goes-on3.ensures
    ∙ compared_end args.whole args.c.now args.d.now rs qs loop.i loop.j (loop.invariant.2 rs qs o p) over
