use mathlib.Core.Path.{sym, ◌∙◌}
use Rattle.xml.specs.Words.{Words·all}
use Rattle.xml_elements.proofs.NameLaws.{is_mrk, is_sm, is_em, is_none}
use Rattle.xml_elements.proofs.annotation_element.Goals as goal

-- return read_mrk(slots, count)
pub returns-then-is_word : goal.returns-then-is_word
unfolding Words·all
returns-then-is_word c =
    let args = c.args in
    let is = sym c.is_word.ensures ∙ c.if-is_word.true in
    is_mrk args.name.now args.filled.slots.now args.filled.count _ is c.read_mrk.ensures

-- return read_sm(slots, count)
pub returns-then-is_word-2 : goal.returns-then-is_word-2
unfolding Words·all
returns-then-is_word-2 c =
    let args = c.args in
    let not-mrk = sym c.is_word.ensures ∙ c.if-is_word.false in
    let is = sym c.is_word-2.ensures ∙ c.if-is_word-2.true in
    is_sm args.name.now args.filled.slots.now args.filled.count _ not-mrk is c.read_sm.ensures

-- return read_em(slots, count)
pub returns-then-is_word-3 : goal.returns-then-is_word-3
unfolding Words·all
returns-then-is_word-3 c =
    let args = c.args in
    let not-mrk = sym c.is_word.ensures ∙ c.if-is_word.false in
    let not-sm = sym c.is_word-2.ensures ∙ c.if-is_word-2.false in
    let is = sym c.is_word-3.ensures ∙ c.if-is_word-3.true in
    is_em args.name.now args.filled.slots.now args.filled.count _ not-mrk not-sm is c.read_em.ensures

-- None
pub returns : goal.returns
unfolding Words·all
returns c =
    let args = c.args in
    let not-mrk = sym c.is_word.ensures ∙ c.if-is_word.false in
    let not-sm = sym c.is_word-2.ensures ∙ c.if-is_word-2.false in
    let not-em = sym c.is_word-3.ensures ∙ c.if-is_word-3.false in
    is_none args.name.now args.filled.slots.now args.filled.count not-mrk not-sm not-em
