use Rattle.xml_words.proofs.CodeLaws.{a_point, no_point}
use Rattle.xml_words.proofs.WordLaws.{nothing_compared, part_of_word, word_ends, other_word, word_so_far}
use mathlib.Core.Path.{sym, ◌∙◌}
use Rattle.xml_words.proofs.value.Value.is.Goals as goal

-- the loop's start
pub loop-k-init : goal.loop-k-init
loop-k-init c =
    let args = c.args in
    nothing_compared args.self.text.now args.word.now args.self.start args.self.quote args.self.inside

-- another code point than the word's: return false
pub returns-in_default : goal.returns-in_default
returns-in_default c =
    let loop = c.loop-k in
    let args = c.args in
    let text = args.self.text.now in
    let read = a_point text loop.at args.self.quote _ c.code_at.ensures _ c.in-Some.is in
    other_word text args.word.now args.self.start args.self.quote loop.at loop.k loop.invariant _ _ read
    c.loop-k-test.true (λ e. c.if-code-from.false (e ∙ sym c.from.ensures))

-- the loop's step
pub loop-k-preserved : goal.loop-k-preserved
loop-k-preserved c =
    let loop = c.loop-k in
    let args = c.args in
    let text = args.self.text.now in
    let read = a_point text loop.at args.self.quote _ c.code_at.ensures _ c.in-Some.is in
    word_so_far text args.word.now args.self.start args.self.quote loop.at loop.k loop.invariant _ _ read
    c.loop-k-test.true (c.if-code-from.true ∙ c.from.ensures)

-- the value is over: return false
pub returns-in_default-2 : goal.returns-in_default-2
returns-in_default-2 c =
    let loop = c.loop-k in
    let args = c.args in
    let text = args.self.text.now in
    let over = no_point text loop.at args.self.quote _ c.code_at.ensures c.in_default.is in
    part_of_word text args.word.now args.self.start args.self.quote loop.at loop.k loop.invariant over
    c.loop-k-test.true

-- self.code_at(at).is_none()
pub returns : goal.returns
returns c =
    let loop = c.loop-k in
    let args = c.args in
    word_ends args.self.text.now args.word.now args.self.start args.self.quote loop.at loop.k loop.invariant _
    c.code_at-2.ensures c.loop-k-test.false _ c.is_none.ensures
