-- Earliest state by cases (document 02, order 3): the sixteen pairs, each a join of two segments, by computation.
use Rattle.std.specs.Prelude.{ℕ, ◌≡◌, refl, List, [], ◌∷◌, map}
use Rattle.xliff.specs.Bytes.{'-', 'F', 'I', 'R', 'T', 'Y'}
use Rattle.xliff.specs.Answer.{Outcome, result}
use Rattle.xliff.specs.State.{state_letters}
use Rattle.xliff.specs.Encode.{spell}
use Rattle.xliff.specs.Join.{join, Join·all}
use Rattle.xliff.specs.examples.Notation.{UN, UE, SG, TG, TX}

-- "A" in the state s with the target "a", "B" in the state t with the target "b"
two_segments : ℕ → ℕ → List ℕ
two_segments s t =
    spell (UN 'Y' ∷ SG 1 '-' s ∷ TX (65 ∷ []) ∷ TG 1 ∷ TX (97 ∷ [])
    ∷ SG 2 '-' t ∷ TX (66 ∷ []) ∷ TG 2 ∷ TX (98 ∷ []) ∷ UE ∷ [])

-- both in one, in this state
joined_in : ℕ → Outcome
joined_in s = result (spell (UN 'Y' ∷ SG 1 '-' s ∷ TX (65 ∷ 66 ∷ []) ∷ TG 1 ∷ TX (97 ∷ 98 ∷ []) ∷ UE ∷ []))

-- the first segment in the state s, the second in I, T, R, F
row : ℕ → List Outcome
row s = map (λ (t : ℕ). join (two_segments s t) 1 8192) state_letters

row_I : row 'I' ≡ joined_in 'I' ∷ joined_in 'I' ∷ joined_in 'I' ∷ joined_in 'I' ∷ []
unfolding Join·all two_segments joined_in row
row_I = refl

row_T : row 'T' ≡ joined_in 'I' ∷ joined_in 'T' ∷ joined_in 'T' ∷ joined_in 'T' ∷ []
unfolding Join·all two_segments joined_in row
row_T = refl

row_R : row 'R' ≡ joined_in 'I' ∷ joined_in 'T' ∷ joined_in 'R' ∷ joined_in 'R' ∷ []
unfolding Join·all two_segments joined_in row
row_R = refl

row_F : row 'F' ≡ joined_in 'I' ∷ joined_in 'T' ∷ joined_in 'R' ∷ joined_in 'F' ∷ []
unfolding Join·all two_segments joined_in row
row_F = refl
