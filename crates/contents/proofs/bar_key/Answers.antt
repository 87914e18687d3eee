use mathlib.Core.Path.{sym, ◌∙◌}
use native.Mathlib.Omega.{arith}
use Rattle.xliff.proofs.lists.Slices.{tail_is}
use Rattle.contents.proofs.BarLaws.{bar_key_out, bar_key_by}
use Rattle.contents.proofs.bar_key.Goals as goal

-- beyond the end
pub returns-then-t-at : goal.returns-then-t-at
returns-then-t-at c =
    let args = c.args in
    bar_key_out args.t.now args.at (omega (arith, c.if-t-at.true))

-- TG
pub returns-then-is_target : goal.returns-then-is_target
returns-then-is_target c =
    let args = c.args in
    bar_key_by args.t.now args.at _ (sym (simp tail_is at c.is_target.ensures) ∙ c.if-is_target.true)

-- all else
pub returns : goal.returns
returns c =
    let args = c.args in
    let other = sym (simp tail_is at c.is_target.ensures) ∙ c.if-is_target.false in
    c.key_at.ensures ∙ bar_key_by args.t.now args.at _ other
