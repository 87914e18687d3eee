use mathlib.Core.Path.{sym, ◌∙◌}
use Rattle.xliff.proofs.lists.Slices.{tail_is}
use Rattle.xml_tag.proofs.CommentLaws.{comment_closed, hyphens_cut, hyphens_wrong}
use Rattle.xml_tag.proofs.hyphens_at.Goals as goal

-- return Markup::Comment(at + 3)
pub returns-then-begins : goal.returns-then-begins
returns-then-begins c =
    let pre = c.requires in
    comment_closed c.args.text.now c.args.at pre.0 pre.1
    (sym (simp tail_is at c.begins.ensures) ∙ c.if-begins.true)

-- return Markup::Fault(text.len())
pub returns-then-text-at-eq2 : goal.returns-then-text-at-eq2
returns-then-text-at-eq2 c =
    let pre = c.requires in
    hyphens_cut c.args.text.now c.args.at pre.0 pre.1
    (sym (simp tail_is at c.begins.ensures) ∙ c.if-begins.false) c.if-text-at-eq2.true

-- Markup::Fault(at)
pub returns : goal.returns
returns c =
    let pre = c.requires in
    hyphens_wrong c.args.text.now c.args.at pre.0 pre.1
    (sym (simp tail_is at c.begins.ensures) ∙ c.if-begins.false) c.if-text-at-eq2.false
