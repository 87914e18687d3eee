-- What is told of a part whose target is removed.
use Rattle.std.specs.Prelude.{ℕ, List, length}
use Rattle.result_rules.specs.Broken.{judged}
use Rattle.xliff.specs.Answer.{◌then◌, Outcome}
use Rattle.xliff.specs.Unit.{Part, XliffUnit}
use Rattle.xliff.specs.Parse.{unit}
use Rattle.xliff.specs.Rules.{fault_7, fault_9}
use Rattle.answers.specs.declared.Answer.{Answer}
use Rattle.outcomes.specs.Outcomes.{Answers}
use Rattle.part_at.specs.declared.PartPlace.{PartPlace}
use Rattle.part_at.specs.Stands.{PartStands}
use Rattle.removed_target.specs.Removed.{removed_unit}

-- what "15. Then 7, 9." leaves of a result
abbrev pub removal_ending : ℕ → XliffUnit → Outcome
removal_ending room v = judged room v (fault_7 v.parts then fault_9 v.parts)

abbrev pub Ended : List ℕ → PartPlace → Answer → List ℕ → List ℕ → Type 0
Ended t place r out last = (b : List Part) (p : Part) (a : List Part) → PartStands t b p a place → Answers (removal_ending (length out) (removed_unit (unit t) b p a)) r out last
