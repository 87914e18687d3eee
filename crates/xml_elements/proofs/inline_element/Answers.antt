use mathlib.Core.Path.{sym, ◌∙◌}
use Rattle.xml.specs.Words.{Words·all}
use Rattle.xml_elements.proofs.NameLaws.{is_cp, is_ph, is_pc, is_sc, is_ec, is_annotation}
use Rattle.xml_elements.proofs.inline_element.Goals as goal

-- return read_cp(slots, count)
pub returns-then-is_word : goal.returns-then-is_word
unfolding Words·all
returns-then-is_word c =
    let args = c.args in
    let is = sym c.is_word.ensures ∙ c.if-is_word.true in
    is_cp args.name.now args.filled.slots.now args.filled.count _ is c.read_cp.ensures

-- return read_ph(slots, count)
pub returns-then-is_word-2 : goal.returns-then-is_word-2
unfolding Words·all
returns-then-is_word-2 c =
    let args = c.args in
    let not-cp = sym c.is_word.ensures ∙ c.if-is_word.false in
    let is = sym c.is_word-2.ensures ∙ c.if-is_word-2.true in
    is_ph args.name.now args.filled.slots.now args.filled.count _ not-cp is c.read_ph.ensures

-- return read_pc(slots, count)
pub returns-then-is_word-3 : goal.returns-then-is_word-3
unfolding Words·all
returns-then-is_word-3 c =
    let args = c.args in
    let not-cp = sym c.is_word.ensures ∙ c.if-is_word.false in
    let not-ph = sym c.is_word-2.ensures ∙ c.if-is_word-2.false in
    let is = sym c.is_word-3.ensures ∙ c.if-is_word-3.true in
    is_pc args.name.now args.filled.slots.now args.filled.count _ not-cp not-ph is c.read_pc.ensures

-- return read_sc(slots, count)
pub returns-then-is_word-4 : goal.returns-then-is_word-4
unfolding Words·all
returns-then-is_word-4 c =
    let args = c.args in
    let not-cp = sym c.is_word.ensures ∙ c.if-is_word.false in
    let not-ph = sym c.is_word-2.ensures ∙ c.if-is_word-2.false in
    let not-pc = sym c.is_word-3.ensures ∙ c.if-is_word-3.false in
    let is = sym c.is_word-4.ensures ∙ c.if-is_word-4.true in
    is_sc args.name.now args.filled.slots.now args.filled.count _ not-cp not-ph not-pc is c.read_sc.ensures

-- return read_ec(slots, count)
pub returns-then-is_word-5 : goal.returns-then-is_word-5
unfolding Words·all
returns-then-is_word-5 c =
    let args = c.args in
    let not-cp = sym c.is_word.ensures ∙ c.if-is_word.false in
    let not-ph = sym c.is_word-2.ensures ∙ c.if-is_word-2.false in
    let not-pc = sym c.is_word-3.ensures ∙ c.if-is_word-3.false in
    let not-sc = sym c.is_word-4.ensures ∙ c.if-is_word-4.false in
    let is = sym c.is_word-5.ensures ∙ c.if-is_word-5.true in
    is_ec args.name.now args.filled.slots.now args.filled.count _ not-cp not-ph not-pc not-sc is c.read_ec.ensures

-- annotation_element(name, slots, count)
pub returns : goal.returns
unfolding Words·all
returns c =
    let args = c.args in
    let not-cp = sym c.is_word.ensures ∙ c.if-is_word.false in
    let not-ph = sym c.is_word-2.ensures ∙ c.if-is_word-2.false in
    let not-pc = sym c.is_word-3.ensures ∙ c.if-is_word-3.false in
    let not-sc = sym c.is_word-4.ensures ∙ c.if-is_word-4.false in
    let not-ec = sym c.is_word-5.ensures ∙ c.if-is_word-5.false in
    is_annotation args.name.now args.filled.slots.now args.filled.count _ not-cp not-ph not-pc not-sc not-ec
    c.annotation_element.ensures
