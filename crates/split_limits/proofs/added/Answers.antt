use native.Mathlib.Omega.{arith}
use Rattle.split_limits.proofs.AddedLaws.{part_added}
use Rattle.split_limits.proofs.added.Goals as goal

-- added_in(place.source_of(t), cuts.source)
pub added_in-source-requires : goal.added_in-source-requires
added_in-source-requires c =
    let (b, p, a, s) = c.requires.1 in
    (p.source, c.source_of.ensures b p a s)

-- source + target
pub overflow_add-result : goal.overflow_add-result
overflow_add-result c =
    let (b, p, a, s) = c.requires.1 in
    let x = c.added_in-source.ensures p.source (c.source_of.ensures b p a s) in
    let y = c.target_added-target.ensures b p a s in
    omega (arith, x.few, y.few)

-- source + target
pub returns : goal.returns
returns c =
    let cuts = c.args.cuts in
    λ b p a s.
    part_added cuts.source cuts.target p c.added_in-source.result c.target_added-target.result
    (c.added_in-source.ensures p.source (c.source_of.ensures b p a s)) (c.target_added-target.ensures b p a s)
