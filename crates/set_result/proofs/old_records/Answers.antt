use mathlib.Core.Path.{sym, ◌∙◌}
use native.Mathlib.Omega.{arith}
use Rattle.xliff.specs.Unit.{target_items}
use Rattle.set_result.proofs.CountLaws.{old_there, no_old}
use Rattle.set_result.proofs.old_records.Goals as goal

-- count_records(place.target_of(t))
pub count_records-requires : goal.count_records-requires
count_records-requires c =
    let (b, p, a, s) = c.requires.1 in
    (target_items p.target, c.target_of.ensures b p a s)

-- return 1 + count_records(place.target_of(t))
pub returns-then-has_target : goal.returns-then-has_target
returns-then-has_target c =
    let args = c.args in
    λ b p a s.
    old_there args.t.now args.place p.target s.target (sym c.has_target.ensures ∙ c.if-has_target.true)
    c.count_records.result (c.count_records.ensures.1 (target_items p.target) (c.target_of.ensures b p a s))

-- 0
pub returns : goal.returns
returns c =
    let args = c.args in
    λ b p a s. no_old args.t.now args.place p.target s.target (sym c.has_target.ensures ∙ c.if-has_target.false)
