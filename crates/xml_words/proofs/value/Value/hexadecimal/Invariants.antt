use Rattle.xml_words.proofs.HexadecimalLaws.{HexadecimalSoFar}
use Prim.Native.Nat.{◌-◌}
use lib.ListN.{length}
use Rattle.xml_words.proofs.value.Value.hexadecimal.Given as goal

abbrev pub invariant-loop-code : goal.invariant-loop-code
invariant-loop-code l = HexadecimalSoFar l.self.text.now l.self.start l.self.quote l.at l.n l.k

abbrev pub decreases-loop-code : goal.decreases-loop-code
decreases-loop-code l = length l.self.text.now - l.at
