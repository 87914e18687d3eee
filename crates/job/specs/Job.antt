-- What one request comes to: its line, and the table that it leaves.
use Rattle.std.specs.Prelude.{ℕ, ◌≤◌, ◌≡◌, List, length, take}
use Rattle.xliff.specs.Answer.{answer}
use Rattle.xliff.specs.Calls.{Call, outcome, left}
use Rattle.xliff.specs.Desk.{line}
use Rattle.xliff.specs.Parse.{most_bytes}
use Rattle.answers.specs.declared.Answer.{Answer}
use Rattle.answers.specs.declared.Answer.TheVariants.{Accepted, Refused}
use Rattle.writer.specs.Pieces.{lead}
use Rattle.job.specs.declared.Step.{Step}

-- an accepted length within the lent output
abbrev pub FitsIn : Answer → Type 0
FitsIn (Accepted m) = m ≤ most_bytes
FitsIn (Refused n at) = Unit {0}

-- the result of an accepted request, else the first n bytes, the table as before it
abbrev pub kept_table : Answer → ℕ → List ℕ → List ℕ → List ℕ
kept_table (Accepted m) n table result = take m result
kept_table (Refused k at) n table result = take n table

-- a call on the table t: its line at the head of the output, and the table that it leaves
pub record Performed (c : Call) (t out : List ℕ) (s : Step) (table' out' : List ℕ) : Type 0 where
  pub prints : s.printed ≡ length (line (answer (outcome t c)))
  pub wrote : out' ≡ lead (line (answer (outcome t c))) out
  pub short : s.printed ≤ 48
  pub leaves : take s.length table' ≡ left t c
  pub fits : s.length ≤ most_bytes
