use native.Mathlib.Omega.{arith}
use borrow.Author.Tests.{ne_eqb}
use Rattle.xml.specs.Words.{'state', 'initial', 'translated', 'reviewed', 'final', codes}
use Rattle.xml.specs.Attributes.{states}
use Rattle.xml.specs.Write.{word_of, word_attribute}
use Rattle.xml_tags.proofs.TagLaws.{value_as}
use Rattle.xml_tags.proofs.put_state.Goals as goal

-- b'I' => put_attribute(draft, .., b"initial")
pub returns-in-73 : goal.returns-in-73
unfolding word_attribute word_of states 'state' 'initial' codes
returns-in-73 c = rw c.in-73.is c.put_attribute.ensures

-- b'T' => put_attribute(draft, .., b"translated")
pub returns-in-84 : goal.returns-in-84
unfolding word_attribute word_of states 'state' 'translated' codes
returns-in-84 c = rw c.in-84.is c.put_attribute-in-84.ensures

-- b'R' => put_attribute(draft, .., b"reviewed")
pub returns-in-82 : goal.returns-in-82
unfolding word_attribute word_of states 'state' 'reviewed' codes
returns-in-82 c = rw c.in-82.is c.put_attribute-in-82.ensures

-- b'F' => put_attribute(draft, .., b"final")
pub returns-in-70 : goal.returns-in-70
unfolding word_attribute word_of states 'state' 'final' codes
returns-in-70 c = rw c.in-70.is c.put_attribute-in-70.ensures

-- any other letter
pub returns-in_default : goal.returns-in_default
unfolding word_attribute word_of states 'state' codes
returns-in_default c =
    let l = c.args.letter in
    value_as 'state'
    (rw (
      ne_eqb l 73 (λ e. omega arith),
      ne_eqb l 84 (λ e. omega arith),
      ne_eqb l 82 (λ e. omega arith),
      ne_eqb l 70 (λ e. omega arith),
    )) c.put_attribute-in_default.ensures
