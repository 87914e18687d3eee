-- The tests of 2 and 21. 21 is asked of a valid table and a complete pair or annotation of the id on the side, in the
-- other form.
use Rattle.std.specs.Prelude.{ℕ, ◌≡◌, Bool, true, false, not, ◌||◌, List, [], ◌∷◌}
use Rattle.std.proofs.Math.Option.{none, some}
use Rattle.xliff.specs.Bytes.{'P', 'S', 'T', Bytes, any, among}
use Rattle.xliff.specs.Item.{Form, form_P, form_S}
use Rattle.xliff.specs.Unit.{XliffUnit}
use Rattle.xliff.specs.Parse.{unit}
use Rattle.xliff.specs.Check.{table_refusal}
use Rattle.xliff.specs.Rewrite.{rewrite_unit, side_content, side_sequence, Whole, find_whole, are_partners, unfit_letter, already}

-- the test of 2: "other letters"
abbrev pub bad_letters : ℕ → ℕ → Bool
bad_letters side w = not (among side ('S' ∷ 'T' ∷ [])) || not (among w ('P' ∷ 'S' ∷ []))

-- "not in one content, not balanced between": with the marks of pc or mrk they are partners in no content
unfoldable pub apart : XliffUnit → ℕ → ℕ → Bool
apart u side i = not (any (λ q. are_partners i (side_content side q)) (rewrite_unit u side i form_P).parts)

-- the test of 21
unfoldable pub fails_to_P : XliffUnit → ℕ → ℕ → Form → Whole → Bool
fails_to_P u side i form_S p = false
fails_to_P u side i form_P p = apart u side i || unfit_letter p

pub record Asked (t : List ℕ) (side i : ℕ) (w : Form) (p : Whole) : Type 0 where
  pub bytes : Bytes t
  pub valid : table_refusal t ≡ none
  pub letter : among side ('S' ∷ 'T' ∷ []) ≡ true
  pub found : find_whole i (side_sequence side (unit t).parts) ≡ some p
  pub other_form : already w p.start ≡ false

-- asked of some pair; its end's letter fits
abbrev pub SomeAsked : List ℕ → ℕ → ℕ → Form → Bool → Type 0
SomeAsked t side i w unfit = (p : Whole) × Asked t side i w p × (unfit ≡ unfit_letter p)

abbrev pub Fitting : List ℕ → ℕ → ℕ → Type 0
Fitting t side i = (p : Whole) × Asked t side i form_P p × (unfit_letter p ≡ false)

-- the answer r to 21, whatever pair is found
abbrev pub Refused21 : List ℕ → ℕ → ℕ → Form → Bool → Type 0
Refused21 t side i w r = (p : Whole) → find_whole i (side_sequence side (unit t).parts) ≡ some p → r ≡ fails_to_P (unit t) side i w p
