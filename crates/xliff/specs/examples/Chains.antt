-- Marker chains may change places (document 02, order 4), each point as a closed example.
use Rattle.std.specs.Prelude.{ℕ, ◌≡◌, refl, Bool, true, false, List, [], ◌∷◌, ◌++◌}
use Rattle.xliff.specs.Bytes.{'-', 'F', 'I', 'N', 'T', 'Y'}
use Rattle.xliff.specs.Answer.{Answer, accepted, refused, answer}
use Rattle.xliff.specs.Encode.{Record, spell}
use Rattle.xliff.specs.SetTarget.{FixedCode, chains, chains_kept, set_target, SetTarget·all}
use Rattle.xliff.specs.examples.Notation.{UN, UE, SG, TX, letters, PH, SC, EC}

-- a standalone code with F, with N
F : ℕ → FixedCode
F i = record { id = i; half = 0; letter = 'F' }

N : ℕ → FixedCode
N i = record { id = i; half = 0; letter = 'N' }

old : List FixedCode
old = N 1 ∷ F 2 ∷ N 3 ∷ F 4 ∷ N 5 ∷ []

Lists·all : Unit {0}
unfolding SetTarget·all F N old
Lists·all = tt

cut_into_chains : chains (N 1 ∷ N 2 ∷ F 3 ∷ F 4 ∷ N 5 ∷ [])
    ≡ record { first = N 1 ∷ N 2 ∷ []; others = (F 3 ∷ []) ∷ (F 4 ∷ N 5 ∷ []) ∷ [] }
unfolding Lists·all
cut_into_chains = refl

kept : List Bool
kept =
    -- as it was; the chains of 2 and 4 in each other's place; no code at all
    chains_kept old old
    ∷ chains_kept old (N 1 ∷ F 4 ∷ N 5 ∷ F 2 ∷ N 3 ∷ [])
    ∷ chains_kept [] []
    -- the N before any F stay first
    ∷ chains_kept old (F 2 ∷ N 3 ∷ F 4 ∷ N 5 ∷ N 1 ∷ [])
    ∷ chains_kept old (F 2 ∷ N 3 ∷ N 1 ∷ F 4 ∷ N 5 ∷ [])
    -- a chain in another order, an N that changed its chain, an F that became N
    ∷ chains_kept (F 2 ∷ N 3 ∷ N 4 ∷ []) (F 2 ∷ N 4 ∷ N 3 ∷ [])
    ∷ chains_kept old (N 1 ∷ F 2 ∷ N 5 ∷ F 4 ∷ N 3 ∷ [])
    ∷ chains_kept old (N 1 ∷ F 2 ∷ N 3 ∷ N 4 ∷ N 5 ∷ [])
    -- one chain more, one less, one twice in another's place, and once where it was twice
    ∷ chains_kept old (old ++ (F 6 ∷ []))
    ∷ chains_kept old (N 1 ∷ F 2 ∷ N 3 ∷ [])
    ∷ chains_kept old (N 1 ∷ F 2 ∷ N 3 ∷ F 2 ∷ N 3 ∷ [])
    ∷ chains_kept (F 2 ∷ F 2 ∷ F 3 ∷ []) (F 2 ∷ F 3 ∷ F 3 ∷ [])
    ∷ []

kept_are : kept
    ≡ true ∷ true ∷ true ∷ false ∷ false ∷ false ∷ false ∷ false ∷ false ∷ false ∷ false ∷ false ∷ []
unfolding Lists·all kept
kept_are = refl

-- In a table: the front door's chain, codes 1 and 2, and the rear door's, a pair; and a part with an N before any F
sign : ℕ → ℕ → Record
sign i r = PH (letters i 'N' 'N' '-' r)

start_of : ℕ → Record
start_of i = SC (letters i 'N' 'N' 'Y' 'F')

end_of : ℕ → Record
end_of i = EC (letters i 'N' 'N' 'Y' 'N')

doors : List ℕ
doors =
    spell (UN 'Y' ∷ SG 7 '-' 'I' ∷ sign 1 'F' ∷ sign 2 'N' ∷ TX (32 ∷ []) ∷ start_of 3 ∷ end_of 3
    ∷ SG 8 '-' 'I' ∷ sign 4 'N' ∷ sign 5 'F' ∷ sign 6 'N' ∷ UE ∷ [])

set : ℕ → List Record → Answer
set n rs = answer (set_target doors n 'T' (spell rs) 8192)

settings : List Answer
settings =
    -- Finnish puts the rear door's chain first
    set 1 (start_of 3 ∷ end_of 3 ∷ sign 1 'F' ∷ sign 2 'N' ∷ [])
    -- an N in another chain, an N before its F, a chain twice
    ∷ set 1 (sign 1 'F' ∷ start_of 3 ∷ end_of 3 ∷ sign 2 'N' ∷ [])
    ∷ set 1 (sign 2 'N' ∷ sign 1 'F' ∷ start_of 3 ∷ end_of 3 ∷ [])
    ∷ set 1 (sign 1 'F' ∷ sign 2 'N' ∷ start_of 3 ∷ end_of 3 ∷ sign 1 'F' ∷ sign 2 'N' ∷ [])
    -- N before any F in that content
    ∷ set 2 (sign 4 'N' ∷ sign 5 'F' ∷ sign 6 'N' ∷ [])
    ∷ set 2 (sign 5 'F' ∷ sign 6 'N' ∷ sign 4 'N' ∷ [])
    ∷ []

settings_are : settings ≡ accepted 158 ∷ refused 19 0 ∷ refused 19 0 ∷ refused 19 0 ∷ accepted 146 ∷ refused 19 0 ∷ []
unfolding SetTarget·all sign start_of end_of doors set settings
settings_are = refl
