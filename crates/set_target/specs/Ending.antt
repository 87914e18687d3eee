-- What is told of a part whose target is set.
use Rattle.std.specs.Prelude.{ℕ, ◌≡◌, true, List, length}
use Rattle.std.proofs.Math.Option.{none}
use Rattle.result_rules.specs.Broken.{judged}
use Rattle.xliff.specs.Answer.{Outcome}
use Rattle.xliff.specs.Unit.{Part, XliffUnit}
use Rattle.xliff.specs.Parse.{unit, content, content_fault}
use Rattle.xliff.specs.Rules.{fault_6_to_10}
use Rattle.xliff.specs.Check.{table_refusal}
use Rattle.xliff.specs.SetTarget.{state_fits}
use Rattle.answers.specs.declared.Answer.{Answer}
use Rattle.outcomes.specs.Outcomes.{Answers}
use Rattle.part_at.specs.declared.PartPlace.{PartPlace}
use Rattle.part_at.specs.Stands.{PartStands}
use Rattle.set_result.specs.SetUnit.{unit_with}

-- what "15. Then 6 to 10" leaves of a result
abbrev pub setting_ending : ℕ → XliffUnit → Outcome
setting_ending room v = judged room v (fault_6_to_10 v.parts)

-- the check passes the table, at the place stands a part that the state fits, and the bytes s are a content
abbrev pub SetAt : List ℕ → PartPlace → ℕ → List ℕ → Type 0
SetAt t place st s =
    (table_refusal t ≡ none) × ((b : List Part) × (p : Part) × (a : List Part) × PartStands t b p a place × (state_fits p.head st ≡ true)) × (content_fault s ≡ none)

abbrev pub Ended : List ℕ → PartPlace → ℕ → ℕ → List ℕ → Answer → List ℕ → List ℕ → Type 0
Ended t place q st s r out last =
    (b : List Part) (p : Part) (a : List Part) → PartStands t b p a place → state_fits p.head st ≡ true
    → Answers (setting_ending (length out) (unit_with (unit t) st q (content s) b p a)) r out last
