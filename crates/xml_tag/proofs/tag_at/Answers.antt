use Prim.Native.Nat.{◌+◌}
use mathlib.Core.Path.{sym, ◌∙◌}
use Rattle.xliff.proofs.lists.Slices.{tail_is}
use Rattle.xml_tag.proofs.OpeningLaws.{comment_fits, something_left, opens_comment, opening_cut, opens_tag}
use Rattle.xml_tag.proofs.tag_at.Goals as goal

-- return comment_at(text, behind + 3)
pub comment_at-requires : goal.comment_at-requires
comment_at-requires c =
    comment_fits c.args.text.now c.args.at c.requires.0 c.requires.1
    (sym (simp tail_is at c.begins.ensures) ∙ c.if-begins.true)

-- return comment_at(text, behind + 3)
pub returns-then-begins : goal.returns-then-begins
returns-then-begins c =
    let pre = c.requires in
    opens_comment c.args.text.now c.args.at pre.0 pre.1
    (sym (simp tail_is at c.begins.ensures) ∙ c.if-begins.true) c.comment_at.result
    c.comment_at.ensures

-- return Markup::Fault(text.len())
pub returns-then-begins-2 : goal.returns-then-begins-2
returns-then-begins-2 c =
    let pre = c.requires in
    let begins = c.begins in
    let if1 = c.if-begins in
    opening_cut c.args.text.now c.args.at pre.0 pre.1
    (sym (simp tail_is at begins.ensures) ∙ if1.false)
    (sym (simp tail_is at c.begins-2.ensures) ∙ c.if-begins-2.true)

-- open_at(text, at, behind)
pub open_at-requires : goal.open_at-requires
open_at-requires c =
    let args = c.args in
    something_left args.text.now _ (args.at + 1)
    (sym (simp tail_is at c.begins-2.ensures) ∙ c.if-begins-2.false)

-- open_at(text, at, behind)
pub returns : goal.returns
returns c =
    let pre = c.requires in
    let begins = c.begins in
    let if1 = c.if-begins in
    opens_tag c.args.text.now c.args.at pre.0 pre.1
    (sym (simp tail_is at begins.ensures) ∙ if1.false)
    (sym (simp tail_is at c.begins-2.ensures) ∙ c.if-begins-2.false) c.open_at.result
    c.open_at.ensures
