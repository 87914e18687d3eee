use borrow.Author.Tests.{not-true, not-false}
use mathlib.Core.Path.{sym, ◌∙◌}
use Rattle.xml_attribute.proofs.NextLaws.{tag_cut, tag_closed, slash_read, no_name, no_space, attribute_read}
use Rattle.xml_attribute.proofs.next_attribute.Goals as goal

-- return Err(Flaw::Cut)
pub returns-then-text-at : goal.returns-then-text-at
returns-then-text-at c =
    let args = c.args in
    let blanks-end = c.blanks_end-at in
    tag_cut args.text.now args.from blanks-end.result blanks-end.ensures c.if-text-at.true

-- return Ok(Next::End(at + 1, false))
pub returns-then-b-eq62 : goal.returns-then-b-eq62
returns-then-b-eq62 c =
    let args = c.args in
    let blanks-end = c.blanks_end-at in
    tag_closed args.text.now args.from blanks-end.result blanks-end.ensures
    c.if-text-at.false c.if-b-eq62.true

-- return short_end(text, at + 1)
pub returns-then-b-eq47 : goal.returns-then-b-eq47
returns-then-b-eq47 c =
    let args = c.args in
    let blanks-end = c.blanks_end-at in
    let if1 = c.if-text-at in
    slash_read args.text.now args.from blanks-end.result blanks-end.ensures if1.false
    c.if-b-eq62.false c.if-b-eq47.true c.short_end.result c.short_end.ensures

-- return Err(Flaw::Wrong)
pub returns-then-not-name_starts : goal.returns-then-not-name_starts
returns-then-not-name_starts c =
    let args = c.args in
    let blanks-end = c.blanks_end-at in
    let if1 = c.if-text-at in
    let if2 = c.if-b-eq62 in
    no_name args.text.now args.from blanks-end.result blanks-end.ensures if1.false if2.false
    c.if-b-eq47.false (sym c.name_starts.ensures ∙ not-true _ c.if-not-name_starts.true-raw)

-- return Err(Flaw::Wrong)
pub returns-then-at-from : goal.returns-then-at-from
returns-then-at-from c =
    let args = c.args in
    let blanks-end = c.blanks_end-at in
    let if1 = c.if-text-at in
    let if2 = c.if-b-eq62 in
    let if3 = c.if-b-eq47 in
    no_space args.text.now args.from blanks-end.result blanks-end.ensures if1.false if2.false
    if3.false c.if-at-from.true

-- attribute_at(text, at)
pub attribute_at-requires : goal.attribute_at-requires
attribute_at-requires c =
    let if1 = c.if-text-at in
    (if1.false, sym c.name_starts.ensures ∙ not-false _ c.if-not-name_starts.false-raw)

-- attribute_at(text, at)
pub returns : goal.returns
returns c =
    let args = c.args in
    let blanks-end = c.blanks_end-at in
    attribute_read args.text.now args.from blanks-end.result blanks-end.ensures c.if-at-from.false
    c.attribute_at.result c.attribute_at.ensures
