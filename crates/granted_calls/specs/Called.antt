-- Stepping stones: a request with its grant, as the code has read it.
use Rattle.std.specs.Prelude.{ℕ, List}
use Rattle.xliff.specs.Answer.{Outcome}
use Rattle.requests.specs.declared.Request.{Request}
use Rattle.requests.specs.Requests.{call_with}
use Rattle.grants.specs.Grant.{Grant, granted_outcome}

-- what the request r at the head of s comes to
abbrev pub call_granted : Grant → List ℕ → List ℕ → Request → ℕ → Outcome
call_granted g t s r room = granted_outcome t (record { grant = g; call = call_with room s r })
