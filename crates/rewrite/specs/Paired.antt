-- What the steps of rewrite hand on: a valid table, good letters, and the pair or annotation found.
use Rattle.std.specs.Prelude.{ℕ, ◌≡◌, Bool, false, not, cond, List, eqb}
use Rattle.std.proofs.Math.Option.{none, some}
use Rattle.xliff.specs.Bytes.{'P'}
use Rattle.xliff.specs.Item.{is_form_P}
use Rattle.xliff.specs.Parse.{unit}
use Rattle.xliff.specs.Check.{table_refusal}
use Rattle.xliff.specs.Rewrite.{side_sequence, Whole, find_whole, unfit_letter}
use Rattle.whole_pair.specs.declared.WholePair.{WholePair}
use Rattle.rewrite_refusals.specs.Asked.{bad_letters}

abbrev pub Ready : List ℕ → ℕ → ℕ → Type 0
Ready t side w = (table_refusal t ≡ none) × (bad_letters side w ≡ false)

-- what was found of a pair, and the pair
pub record Paired (t : List ℕ) (side i w : ℕ) (found_pair : WholePair) : Type 0 where
  pub ready : Ready t side w
  pub pair : Whole
  pub found : find_whole i (side_sequence side (unit t).parts) ≡ some pair
  pub form : found_pair.form_p ≡ is_form_P pair.start
  pub letter : found_pair.unfit ≡ unfit_letter pair

-- "already so"
abbrev pub already_in : ℕ → Bool → Bool
already_in w formP = cond (eqb w 'P') formP (not formP)
