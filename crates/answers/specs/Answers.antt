-- What the answers and places of the code mean.
use Rattle.std.specs.Prelude.{ℕ, cond, List, ltb, Option as RustOption, None, Some}
use Rattle.std.proofs.Math.Option.{Option, none}
use Rattle.xliff.specs.Answer as spec
use Rattle.xliff.specs.Answer.{Refusal, refusal}
use Rattle.xliff.specs.Sequences.{first_of, least}
use Rattle.answers.specs.declared.Answer.{Answer}
use Rattle.answers.specs.declared.Answer.TheVariants.{Accepted, Refused}

-- "If the answer is an enum, a definition gives this paper's number and values for each of its cases."
abbrev pub answer_meaning : Answer → spec.Answer
answer_meaning (Accepted n) = spec.accepted n
answer_meaning (Refused n at) = spec.refused n at

-- a rule's number at a place
abbrev pub refusal_at : ℕ → RustOption ℕ → Option Refusal
refusal_at n None = none
refusal_at n (Some at) = refusal n at

-- the lower of two places
abbrev pub lower : RustOption ℕ → ℕ → RustOption ℕ
lower None at = Some at
lower (Some a) at = Some (cond (ltb at a) at a)

-- the least of a place, if there is one, and of others
unfoldable pub toward : ℕ → RustOption ℕ → List ℕ → Option Refusal
toward n None bs = first_of n bs
toward n (Some a) bs = refusal n (least a bs)
