use Rattle.xml_reference.proofs.EntityLaws.{NoneBefore}
use Rattle.xml_reference.proofs.entity_of.Given as goal

abbrev pub invariant-loop-name : goal.invariant-loop-name
invariant-loop-name l = NoneBefore l.entities l.text l.name-index
