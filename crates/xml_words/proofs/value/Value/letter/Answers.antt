use mathlib.Core.Path.{sym, ap, ◌∙◌}
use mathlib.Core.Option.{some}
use Rattle.xml_words.proofs.LetterLaws.{this_word, another_word, no_word}
use Rattle.xml_words.proofs.value.Value.letter.Goals as goal

-- return Some(u32::from(*letter))
pub returns-then-is : goal.returns-then-is
returns-then-is c =
    ap some c.from.ensures
    ∙ this_word c.args.words.now _ c.loop-word.word-index c.loop-word.invariant _ c.loop-word-test.true
    (sym c.is.ensures ∙ c.if-is.true)

-- the loop's step
pub loop-word-preserved : goal.loop-word-preserved
loop-word-preserved c =
    another_word c.args.words.now _ c.loop-word.word-index c.loop-word.invariant _ c.loop-word-test.true
    (sym c.is.ensures ∙ c.if-is.false)

-- None
pub returns : goal.returns
returns c = no_word c.args.words.now _ c.loop-word.word-index c.loop-word.invariant c.loop-word-test.false
