-- Stepping stones: what is asked to tell whether a request is granted.
use Rattle.std.specs.Prelude.{ℕ, ◌≡◌, Bool, List}
use Rattle.requests.specs.declared.Request.{Request}
use Rattle.requests.specs.Requests.{call_with}
use Rattle.grants.specs.Grant.{Grant, granted}

-- whether a request is granted, whatever its content and the lent output
abbrev pub GrantedIs : Grant → List ℕ → Request → Bool → Type 0
GrantedIs g t r b = (room : ℕ) (s : List ℕ) → b ≡ granted g t (call_with room s r)
