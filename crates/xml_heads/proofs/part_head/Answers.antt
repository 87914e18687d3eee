use mathlib.Core.Path.{sym, ◌∙◌}
use Rattle.xml.specs.Words.{Words·all}
use Rattle.xml_heads.proofs.HeadLaws.{is_segment, is_ignorable, is_no_part}
use Rattle.xml_heads.proofs.part_head.Goals as goal

-- return segment_head(slots, count)
pub returns-then-is_word : goal.returns-then-is_word
unfolding Words·all
returns-then-is_word c =
    let args = c.args in
    let is = sym c.is_word.ensures ∙ c.if-is_word.true in
    is_segment args.name.now args.filled.slots.now args.filled.count _ is c.segment_head.ensures

-- return ignorable_head(slots, count)
pub returns-then-is_word-2 : goal.returns-then-is_word-2
unfolding Words·all
returns-then-is_word-2 c =
    let args = c.args in
    let not-segment = sym c.is_word.ensures ∙ c.if-is_word.false in
    let is = sym c.is_word-2.ensures ∙ c.if-is_word-2.true in
    is_ignorable args.name.now args.filled.slots.now args.filled.count _ not-segment is c.ignorable_head.ensures

-- None
pub returns : goal.returns
unfolding Words·all
returns c =
    let args = c.args in
    let not-segment = sym c.is_word.ensures ∙ c.if-is_word.false in
    let not-ignorable = sym c.is_word-2.ensures ∙ c.if-is_word-2.false in
    is_no_part args.name.now args.filled.slots.now args.filled.count not-segment not-ignorable
