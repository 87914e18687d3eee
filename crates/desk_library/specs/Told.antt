-- An answer in the form that C has: whether it is accepted, the number, and the length or the place.
use Rattle.std.specs.Prelude.{ℕ, ◌≡◌, Bool, true, false, List}
use Rattle.xliff.specs.Answer.{Answer, accepted, refused, Outcome, answer, output}

-- the number is 0 for an accepted answer
abbrev pub told : Answer → Bool → ℕ → ℕ → Type 0
told (accepted n) b number value = (b ≡ true) × (number ≡ 0) × (value ≡ n)
told (refused n at) b number value = (b ≡ false) × (number ≡ n) × (value ≡ at)

-- the answer, and every byte of the lent output
pub record Tells (o : Outcome) (b : Bool) (number value : ℕ) (out last : List ℕ) : Type 0 where
  pub answers : told (answer o) b number value
  pub leaves : last ≡ output o out
