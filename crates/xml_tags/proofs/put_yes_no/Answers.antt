use native.Mathlib.Omega.{arith}
use borrow.Author.Tests.{ne_eqb}
use Rattle.xml.specs.Words.{'yes', 'no', codes}
use Rattle.xml.specs.Attributes.{yes_no}
use Rattle.xml.specs.Write.{word_of, word_attribute}
use Rattle.xml_tags.proofs.TagLaws.{value_as}
use Rattle.xml_tags.proofs.put_yes_no.Goals as goal

-- b'Y' => put_attribute(draft, .., b"yes")
pub returns-in-89 : goal.returns-in-89
unfolding word_attribute word_of yes_no 'yes' codes
returns-in-89 c = rw c.in-89.is c.put_attribute.ensures

-- b'N' => put_attribute(draft, .., b"no")
pub returns-in-78 : goal.returns-in-78
unfolding word_attribute word_of yes_no 'no' codes
returns-in-78 c = rw c.in-78.is c.put_attribute-in-78.ensures

-- any other letter
pub returns-in_default : goal.returns-in_default
unfolding word_attribute word_of yes_no
returns-in_default c =
    let l = c.args.letter in
    value_as c.args.name.now
    (rw (
      ne_eqb l 89 (λ e. omega arith),
      ne_eqb l 78 (λ e. omega arith),
    )) c.put_attribute-in_default.ensures
