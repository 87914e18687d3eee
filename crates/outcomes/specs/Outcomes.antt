-- What an operation promises: its answer, and every byte of the lent output.
use Rattle.std.specs.Prelude.{ℕ, ◌≡◌, List}
use Rattle.xliff.specs.Answer.{Outcome, answer, output}
use Rattle.answers.specs.Answers.{answer_meaning}
use Rattle.answers.specs.declared.Answer.{Answer}

abbrev pub Answers : Outcome → Answer → List ℕ → List ℕ → Type 0
Answers o r out last = (answer_meaning r ≡ answer o) × (last ≡ output o out)
