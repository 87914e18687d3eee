use mathlib.Core.Path.{sym, ◌∙◌}
use Rattle.set_target.proofs.OldLaws.{of_target, of_source}
use Rattle.set_target.proofs.old_content.Goals as goal

-- return place.target_of(table)
pub returns-then-has_target : goal.returns-then-has_target
returns-then-has_target c =
    let args = c.args in
    λ b p a s.
    of_target args.table.now args.place p _ p.target s.target (sym c.has_target.ensures ∙ c.if-has_target.true)
    (c.target_of.ensures b p a s)

-- place.source_of(table)
pub returns : goal.returns
returns c =
    let args = c.args in
    λ b p a s.
    of_source args.table.now args.place p _ p.target s.target (sym c.has_target.ensures ∙ c.if-has_target.false)
    (c.source_of.ensures b p a s)
