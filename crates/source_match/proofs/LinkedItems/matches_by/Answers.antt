use native.Mathlib.Omega.{arith}
use lib.ListN.{get_or}
use Prim.Native.Nat.{ℕ, ◌%◌}
use mathlib.Core.Path.{◌∙◌, ap}
use Rattle.source_match.proofs.ChainLaws.{follow_start, follow_less, follow_next, follow_end}
use Rattle.source_match.proofs.LinkedItems.matches_by.Goals as goal

-- the loop's start
pub loop-j-init : goal.loop-j-init
loop-j-init c =
    let s = c.args.self in
    follow_start s.t.now s.sequence.markers.now s.sequence.keys.now s.links.now s.heads.now c.args.id c.args.x s.linked
    c.none-found.result c.none-found.ensures c.wide-j.result (c.wide-j.ensures.0 ∙ ap (λ (n : ℕ). get_or s.heads.now (n % 256) 0) c.wide.ensures.0)

-- self.one_more(i, id, x, found)
pub one_more-found-requires : goal.one_more-found-requires
one_more-found-requires c = omega (arith, c.loop-j.invariant.0, c.loop-j-test.true)

-- self.links[i]
pub bounds-self-i : goal.bounds-self-i
bounds-self-i c = omega (arith, c.args.self.linked.3, c.loop-j.invariant.0, c.loop-j-test.true)

-- the loop ends
pub loop-j-smaller : goal.loop-j-smaller
loop-j-smaller c =
    let s = c.args.self in
    omega (
      arith,
      c.wide-j-in-loop-j.ensures.0,
      follow_less s.t.now s.sequence.markers.now s.sequence.keys.now s.links.now s.heads.now c.args.id c.args.x s.linked
          c.loop-j.found c.loop-j.j c.loop-j-test.true c.loop-j.invariant,
    )

-- the loop's step
pub loop-j-preserved : goal.loop-j-preserved
loop-j-preserved c =
    let s = c.args.self in
    follow_next s.t.now s.sequence.markers.now s.sequence.keys.now s.links.now s.heads.now c.args.id c.args.x s.linked
    c.loop-j.found c.one_more-found.result c.loop-j.j c.wide-j-in-loop-j.result c.loop-j-test.true c.loop-j.invariant
    c.one_more-found.ensures c.wide-j-in-loop-j.ensures.0

-- found
pub returns : goal.returns
returns c =
    let s = c.args.self in
    follow_end s.t.now s.sequence.markers.now s.sequence.keys.now s.links.now s.heads.now c.args.id c.args.x s.linked
    c.loop-j.found c.loop-j.j c.loop-j-test.false c.loop-j.invariant
