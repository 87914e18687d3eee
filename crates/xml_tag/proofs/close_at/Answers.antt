use borrow.Author.Tests.{not-true, not-false}
use mathlib.Core.Path.{sym, ◌∙◌}
use Rattle.xml_tag.proofs.TagLaws.{name_cut, no_end_name, end_cut, end_read, end_wrong}
use borrow.Author.Rules.{rules}
use Rattle.xml_tag.proofs.close_at.Goals as goal

-- return Markup::Short
pub returns-then-text-at : goal.returns-then-text-at
returns-then-text-at c =
    let args = c.args in
    name_cut args.text.now args.place args.at (search rules) c.if-text-at.true

-- return Markup::Fault(place)
pub returns-then-not-name_starts : goal.returns-then-not-name_starts
returns-then-not-name_starts c =
    let args = c.args in
    let if1 = c.if-text-at in
    no_end_name args.text.now args.place args.at if1.false
    (sym c.name_starts.ensures ∙ not-true _ c.if-not-name_starts.true-raw)

-- return Markup::Short
pub returns-then-text-end : goal.returns-then-text-end
returns-then-text-end c =
    let args = c.args in
    let if1 = c.if-text-at in
    let name-starts = c.name_starts in
    let if2 = c.if-not-name_starts in
    let name_end = c.name_end-upto in
    let blanks-end = c.blanks_end-end in
    end_cut args.text.now args.place args.at name_end.result blanks-end.result if1.false
    (sym name-starts.ensures ∙ not-false _ if2.false-raw) name_end.ensures blanks-end.ensures c.if-text-end.true

-- return Markup::Close(Span { .. }, end + 1)
pub returns-then-text-end-eq62 : goal.returns-then-text-end-eq62
returns-then-text-end-eq62 c =
    let args = c.args in
    let if1 = c.if-text-at in
    let name-starts = c.name_starts in
    let if2 = c.if-not-name_starts in
    let name_end = c.name_end-upto in
    let blanks-end = c.blanks_end-end in
    end_read args.text.now args.place args.at name_end.result blanks-end.result if1.false
    (sym name-starts.ensures ∙ not-false _ if2.false-raw) name_end.ensures blanks-end.ensures
    c.if-text-end.false c.if-text-end-eq62.true

-- Markup::Fault(place)
pub returns : goal.returns
returns c =
    let args = c.args in
    let if1 = c.if-text-at in
    let name-starts = c.name_starts in
    let if2 = c.if-not-name_starts in
    let name_end = c.name_end-upto in
    let blanks-end = c.blanks_end-end in
    end_wrong args.text.now args.place args.at name_end.result blanks-end.result if1.false
    (sym name-starts.ensures ∙ not-false _ if2.false-raw) name_end.ensures blanks-end.ensures
    c.if-text-end.false c.if-text-end-eq62.false
