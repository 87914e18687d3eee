-- What is asked and told of two parts that are to be joined.
use Rattle.std.specs.Prelude.{ℕ, ◌≡◌, List, ◌∷◌, length}
use Rattle.std.proofs.Math.Option.{none}
use Rattle.xliff.specs.Answer.{applies, ◌then◌, is_fault, Outcome, unless}
use Rattle.xliff.specs.Unit.{Part, XliffUnit}
use Rattle.xliff.specs.Encode.{encode}
use Rattle.xliff.specs.Parse.{unit}
use Rattle.xliff.specs.Rules.{fault_7}
use Rattle.xliff.specs.Check.{table_refusal, too_large}
use Rattle.xliff.specs.Focus.{here, focus}
use Rattle.xliff.specs.Join.{join}
use Rattle.answers.specs.declared.Answer.{Answer}
use Rattle.outcomes.specs.Outcomes.{Answers}
use Rattle.part_at.specs.declared.PartPlace.{PartPlace}
use Rattle.join_result.specs.Result.{Beside, joined_unit}

-- the table is valid, and at x and y two of its parts stand side by side
abbrev pub PairAt : List ℕ → PartPlace → PartPlace → Type 0
PairAt t x y = (table_refusal t ≡ none) × (b : List Part) × (p : Part) × (q : Part) × (a : List Part) × Beside t x y b p q a

-- what 17 and 15 leave of a result
unfoldable pub join_ending : ℕ → XliffUnit → Outcome
join_ending room v = unless (applies 17 (is_fault (fault_7 v.parts)) then applies 15 (too_large room v)) (encode v)

abbrev pub Ended : List ℕ → PartPlace → PartPlace → Answer → List ℕ → List ℕ → Type 0
Ended t x y r out last =
    (b : List Part) (p q : Part) (a : List Part) → Beside t x y b p q a → Answers (join_ending (length out) (joined_unit (unit t) b p q a)) r out last

-- the answer of join, for the number of the first of the two
abbrev pub PairAnswers : List ℕ → PartPlace → PartPlace → Answer → List ℕ → List ℕ → Type 0
PairAnswers t x y r out last =
    (n : ℕ) (b : List Part) (p q : Part) (a : List Part) → focus (unit t).parts n ≡ here b p (q ∷ a) → Beside t x y b p q a
    → Answers (join t n (length out)) r out last
