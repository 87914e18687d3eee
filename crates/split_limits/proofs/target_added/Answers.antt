use mathlib.Core.Path.{sym, ◌∙◌}
use native.Mathlib.Omega.{arith}
use Rattle.xliff.specs.Unit.{target_items}
use Rattle.split_limits.proofs.AddedLaws.{grown_there, nothing_grown}
use Rattle.split_limits.proofs.target_added.Goals as goal

-- added_in(place.target_of(t), cut)
pub added_in-requires : goal.added_in-requires
added_in-requires c =
    let (b, p, a, s) = c.requires.1 in
    (target_items p.target, c.target_of.ensures b p a s)

-- 1 + added_in(place.target_of(t), cut)
pub overflow_add-result : goal.overflow_add-result
overflow_add-result c =
    let (b, p, a, s) = c.requires.1 in
    omega (arith, (c.added_in.ensures (target_items p.target) (c.target_of.ensures b p a s)).few)

-- return 1 + added_in(place.target_of(t), cut)
pub returns-then-has_target : goal.returns-then-has_target
returns-then-has_target c =
    let args = c.args in
    λ b p a s.
    grown_there args.t.now args.place args.cut p.target c.added_in.result s.target
    (sym c.has_target.ensures ∙ c.if-has_target.true)
    (c.added_in.ensures (target_items p.target) (c.target_of.ensures b p a s))

-- 0
pub returns : goal.returns
returns c =
    let args = c.args in
    λ b p a s.
    nothing_grown args.t.now args.place args.cut p.target s.target (sym c.has_target.ensures ∙ c.if-has_target.false)
