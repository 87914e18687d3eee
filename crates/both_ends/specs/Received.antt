-- Demand 3 of the desk program: the list of calls is what it reads from a job, the received table what it prints last.
-- A statement, not its proof.
use Rattle.std.specs.Prelude.{ℕ, zero, suc, ◌+◌, ◌≡◌, List, [], ◌∷◌, ◌++◌, length, take, drop}
use Rattle.std.proofs.Math.Option.{none, some}
use Rattle.xliff.specs.Bytes.{Bytes, gather}
use Rattle.xliff.specs.Answer.{refused}
use Rattle.xliff.specs.Check.{Valid}
use Rattle.xliff.specs.Calls.{Call, after, answers}
use Rattle.xliff.specs.Desk.{table_length, request, line, table_line, most_job, desk}
use Rattle.xliff.specs.BothEnds.{BothEnds}

-- "It reads a job of at most 65,535 bytes (later input is not read)"
unfoldable pub job_of : List ℕ → List ℕ
job_of input = take most_job input

-- the table of a job
unfoldable pub sent : List ℕ → List ℕ
sent job = take (table_length job) job

-- the calls that its readable requests ask for, up to the first unreadable one
unfoldable pub calls_from : ℕ → List ℕ → List Call
calls_from zero s = []
calls_from (suc n) [] = []
calls_from (suc n) (b ∷ s) = elim (request (b ∷ s)) [ none ↦ [] | some r ↦ r.call ∷ calls_from n (drop r.size (b ∷ s)) ]

unfoldable pub calls : List ℕ → List Call
calls job = calls_from (length job) (drop (table_length job) job)

-- the line of an unreadable request, if there is one
unfoldable pub unreadable_from : ℕ → ℕ → List ℕ → List ℕ
unreadable_from zero at s = []
unreadable_from (suc n) at [] = []
unreadable_from (suc n) at (b ∷ s) = elim (request (b ∷ s)) [ none ↦ line (refused 2 at) | some r ↦ unreadable_from n (at + r.size) (drop r.size (b ∷ s)) ]

unfoldable pub unreadable : List ℕ → List ℕ
unreadable job = unreadable_from (length job) (table_length job) (drop (table_length job) job)

-- what the Merger receives of an input
pub record Received (input : List ℕ) : Type 0 where
  -- the program prints the answers of the list of calls, and last the table after it
  pub prints : desk input
      ≡ gather line (answers (sent (job_of input)) (calls (job_of input))) ++ (unreadable (job_of input) ++ table_line (after (sent (job_of input)) (calls (job_of input))))
  -- "Both ends", of that list
  pub both_ends : BothEnds (sent (job_of input)) (calls (job_of input))

-- For every input of bytes whose table is valid
unfoldable pub Demand3OfTheProgram : Type 0
Demand3OfTheProgram = (input : List ℕ) → Bytes input → Valid (sent (job_of input)) → Received input

-- the same of one input, whose bytes the program has read
unfoldable pub Meets : List ℕ → Type 0
Meets input = Valid (sent (job_of input)) → Received input
