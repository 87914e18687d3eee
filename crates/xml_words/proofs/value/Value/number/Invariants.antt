use Rattle.xml_words.proofs.NumberLaws.{NumberSoFar}
use Prim.Native.Nat.{◌-◌}
use lib.ListN.{length}
use Rattle.xml_words.proofs.value.Value.number.Given as goal

abbrev pub invariant-loop-code : goal.invariant-loop-code
invariant-loop-code l = NumberSoFar l.self.text.now l.self.start l.self.quote l.at l.n

abbrev pub decreases-loop-code : goal.decreases-loop-code
decreases-loop-code l = length l.self.text.now - l.at
