use mathlib.Core.Path.{sym, ◌∙◌}
use Rattle.xml_tag.proofs.TagLaws.{start_read, slash_read, no_tag}
use borrow.Author.Rules.{rules}
use Rattle.xml_tag.proofs.open_at.Goals as goal

-- return Markup::Start(Span { .. })
pub returns-then-name_starts : goal.returns-then-name_starts
returns-then-name_starts c =
    let args = c.args in
    start_read args.text.now args.place args.at c.name_end.result (search rules)
    (sym c.name_starts.ensures ∙ c.if-name_starts.true) c.name_end.ensures

-- return close_at(text, place, at + 1)
pub returns-then-b-eq47 : goal.returns-then-b-eq47
returns-then-b-eq47 c =
    let args = c.args in
    let name-starts = c.name_starts in
    slash_read args.text.now args.place args.at (search rules)
    (sym name-starts.ensures ∙ c.if-name_starts.false) c.if-b-eq47.true c.close_at.result
    c.close_at.ensures

-- Markup::Fault(place)
pub returns : goal.returns
returns c =
    let args = c.args in
    no_tag args.text.now args.place args.at (search rules)
    (sym c.name_starts.ensures ∙ c.if-name_starts.false) c.if-b-eq47.false
