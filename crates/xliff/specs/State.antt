-- The states of a segment, and the earliest of two. Source document 000, 4.3.1.31 state: "initial .. translated ..
-- reviewed .. final": "a simple linear state machine that advances in the above given order".
use Rattle.std.specs.Prelude.{ℕ, cond, List, [], ◌∷◌, eqb}
use Rattle.xliff.specs.Bytes.{'F', 'I', 'R', 'T'}

pub data State : Type 0 where
  initial : State
  translated : State
  reviewed : State
  final : State

-- document 01, "Table": "state I, T, R, F"
abbrev pub state_letters : List ℕ
state_letters = 'I' ∷ 'T' ∷ 'R' ∷ 'F' ∷ []

unfoldable pub state_letter : State → ℕ
state_letter initial = 'I'
state_letter translated = 'T'
state_letter reviewed = 'R'
state_letter final = 'F'

-- the state of a letter; in a valid table no segment has another letter than these four (number 2)
unfoldable pub state_of : ℕ → State
state_of s = cond (eqb s 'I') initial (cond (eqb s 'T') translated (cond (eqb s 'R') reviewed final))

-- Document 02, order 3: "the sixteen pairs written as cases". 000, 4.8.3 Segmentation Modification: "the state attribute
-- of the joined <segment> must be set to the "earliest" of the values specified in the original <segment> elements. The
-- sequence of state values are defined in the following order: 1: initial, 2: translated, 3: reviewed, and 4: final."
unfoldable pub earliest : State → State → State
earliest initial initial = initial
earliest initial translated = initial
earliest initial reviewed = initial
earliest initial final = initial
earliest translated initial = initial
earliest translated translated = translated
earliest translated reviewed = translated
earliest translated final = translated
earliest reviewed initial = initial
earliest reviewed translated = translated
earliest reviewed reviewed = reviewed
earliest reviewed final = reviewed
earliest final initial = initial
earliest final translated = translated
earliest final reviewed = reviewed
earliest final final = final

unfoldable pub State·all : Unit {0}
unfolding state_letter state_of earliest
State·all = tt
