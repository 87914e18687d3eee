use mathlib.Core.Path.{sym, ap, ◌∙◌}
use Rattle.xliff.proofs.lists.Slices.{tail_is}
use native.Mathlib.Omega.{arith}
use Rattle.xml_front.specs.Fronts.{told}
use Rattle.xml.proofs.FitLaws.{character_within}
use Rattle.xml_tag.proofs.CommentLaws.{comment_begins, comment_read, comment_goes_on, comment_flawed, comment_ends}
use borrow.Author.Rules.{rules}
use Rattle.xml_tag.proofs.comment_at.Goals as goal

-- the loop's start
pub loop-at-init : goal.loop-at-init
loop-at-init c =
    let args = c.args in
    comment_begins args.text.now args.from (search rules)

-- return hyphens_at(text, at)
pub hyphens_at-requires : goal.hyphens_at-requires
hyphens_at-requires c = (search rules, sym (simp tail_is at c.begins.ensures) ∙ c.if-begins.true)

-- return hyphens_at(text, at)
pub returns-then-begins : goal.returns-then-begins
returns-then-begins c =
    let args = c.args in
    let loop = c.loop-at in
    comment_read args.text.now args.from loop.at loop.invariant c.hyphens_at.result c.hyphens_at.ensures

-- at = at + 1 + front.more
pub overflow_add-at-in-Ok : goal.overflow_add-at-in-Ok
overflow_add-at-in-Ok c =
    let text = c.args.text.now in
    let loop = c.loop-at in
    let front_character = c.front_character in
    let front = sym (simp tail_is at front_character.ensures) ∙ ap told c.in-Ok.is in
    omega (arith, character_within text loop.at _ _ (search rules) front)

-- the loop's measure
pub loop-at-smaller : goal.loop-at-smaller
loop-at-smaller c =
    let text = c.args.text.now in
    let loop = c.loop-at in
    let loop-test = c.loop-at-test in
    let front_character = c.front_character in
    let front = sym (simp tail_is at front_character.ensures) ∙ ap told c.in-Ok.is in
    omega (arith, character_within text loop.at _ _ (search rules) front, loop-test.true)

-- the loop's step
pub loop-at-preserved : goal.loop-at-preserved
loop-at-preserved c =
    let args = c.args in
    let loop = c.loop-at in
    let no-hyphens = sym (simp tail_is at c.begins.ensures) ∙ c.if-begins.false in
    let front_character = c.front_character in
    let front = sym (simp tail_is at front_character.ensures) ∙ ap told c.in-Ok.is in
    comment_goes_on args.text.now args.from loop.at loop.invariant (search rules) no-hyphens _ _ front

-- Err(flaw): return Markup::Fault(flaw.place(at, text.len()))
pub returns-in-Err : goal.returns-in-Err
returns-in-Err c =
    let args = c.args in
    let loop = c.loop-at in
    let no-hyphens = sym (simp tail_is at c.begins.ensures) ∙ c.if-begins.false in
    let front = sym (simp tail_is at c.front_character.ensures) ∙ ap told c.in-Err.is in
    rw c.place.ensures (comment_flawed args.text.now args.from loop.at loop.invariant (search rules) no-hyphens _ front)

-- Markup::Fault(text.len()), where the text ends
pub returns : goal.returns
returns c =
    let args = c.args in
    let loop = c.loop-at in
    comment_ends args.text.now args.from loop.at loop.invariant (search rules)
