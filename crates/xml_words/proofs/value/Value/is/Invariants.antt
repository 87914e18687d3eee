use Rattle.xml_words.proofs.WordLaws.{WordSoFar}
use Rattle.xml_words.proofs.value.Value.is.Given as goal

abbrev pub invariant-loop-k : goal.invariant-loop-k
invariant-loop-k l = WordSoFar l.self.text.now l.word l.self.start l.self.quote l.at l.k
