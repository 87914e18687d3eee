use mathlib.Core.Path.{◌≡◌}
use lib.ListN.{drop}
use Rattle.xml.specs.Attributes.{letter_of}
use Rattle.xml_values.specs.Values.{value_codes}
use Rattle.xml_words.specs.Codes.{spelled_out}
use Rattle.xml_words.proofs.value.Value.letter.Given as goal

abbrev pub invariant-loop-word : goal.invariant-loop-word
invariant-loop-word l =
    letter_of (spelled_out l.words) (value_codes l.self.quote 0 (drop l.self.start l.self.text.now))
    ≡ letter_of (spelled_out (drop l.word-index l.words)) (value_codes l.self.quote 0 (drop l.self.start l.self.text.now))
