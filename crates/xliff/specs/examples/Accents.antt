-- Accents stay with their letters (document 02, order 2), each point as a closed example.
use Rattle.std.specs.Prelude.{ℕ, ◌≡◌, refl, List, [], ◌∷◌, ◌++◌}
use Rattle.xliff.specs.Bytes.{'-', 'T', 'Y'}
use Rattle.xliff.specs.Answer.{Answer, accepted, refused, answer}
use Rattle.xliff.specs.Encode.{Record, spell}
use Rattle.xliff.specs.Split.{split, Split·all}
use Rattle.xliff.specs.examples.Notation.{UN, UE, SG, TG, TX, CP, letters, PH}

-- an acute accent, as a code point of its own
acute : ℕ
acute = 0x301

-- a unit of one segment, id 1, with these records
segment_of : List Record → List ℕ
segment_of rs = spell (UN 'Y' ∷ SG 1 '-' 'T' ∷ (rs ++ (UE ∷ [])))

-- the answer to a split of it, with the new id 2
cut_at : ℕ → ℕ → List Record → Answer
cut_at source_cut target_cut rs = answer (split (segment_of rs) 1 source_cut target_cut 2 8192)

-- a code without id of its own, and a character that is no text
code : Record
code = PH (letters 7 'Y' 'Y' '-' 'Y')

Accents·all : Unit {0}
unfolding Split·all acute segment_of cut_at code
Accents·all = tt

in_the_source : List Answer
in_the_source =
    -- "e", two accents, "r": parted from the letter, parted from the accent before it; behind both it may be cut
    cut_at 1 0 (TX (101 ∷ acute ∷ 0x302 ∷ 114 ∷ []) ∷ [])
    ∷ cut_at 2 0 (TX (101 ∷ acute ∷ 0x302 ∷ 114 ∷ []) ∷ [])
    ∷ cut_at 3 0 (TX (101 ∷ acute ∷ 0x302 ∷ 114 ∷ []) ∷ [])
    -- U+0300 to U+036F: the two next to them are none
    ∷ cut_at 1 0 (TX (101 ∷ 0x300 ∷ []) ∷ [])
    ∷ cut_at 1 0 (TX (101 ∷ 0x36F ∷ []) ∷ [])
    ∷ cut_at 1 0 (TX (101 ∷ 0x2FF ∷ []) ∷ [])
    ∷ cut_at 1 0 (TX (101 ∷ 0x370 ∷ []) ∷ [])
    -- behind a code, and behind a CP, no text stands before the cut
    ∷ cut_at 1 0 (code ∷ TX (acute ∷ []) ∷ [])
    ∷ cut_at 1 0 (CP 1 ∷ TX (acute ∷ []) ∷ [])
    ∷ []

in_the_source_table : in_the_source
    ≡ refused 23 0 ∷ refused 23 0 ∷ accepted 31 ∷ refused 23 0 ∷ refused 23 0 ∷ accepted 28 ∷ accepted 28 ∷ accepted 35 ∷ accepted 29 ∷ []
unfolding Accents·all in_the_source
in_the_source_table = refl

in_the_target : List Answer
in_the_target =
    -- the target alone is parted
    cut_at 1 1 (TX (65 ∷ 66 ∷ []) ∷ TG 1 ∷ TX (101 ∷ acute ∷ []) ∷ [])
    -- where the target begins with an accent, and at its end, nothing is parted
    ∷ cut_at 1 0 (TX (65 ∷ 66 ∷ []) ∷ TG 1 ∷ TX (acute ∷ []) ∷ [])
    ∷ cut_at 1 2 (TX (65 ∷ 66 ∷ []) ∷ TG 1 ∷ TX (101 ∷ acute ∷ []) ∷ [])
    ∷ []

in_the_target_table : in_the_target ≡ refused 23 0 ∷ accepted 41 ∷ accepted 42 ∷ []
unfolding Accents·all in_the_target
in_the_target_table = refl

-- 23 stands behind 13 and before 14 and 15: a cut that is no cut; an id that is taken, and no output
in_sequence : List Answer
in_sequence =
    cut_at 1 1 (TX (101 ∷ acute ∷ []) ∷ [])
    ∷ answer (split (segment_of (TX (101 ∷ acute ∷ []) ∷ [])) 1 1 0 1 0)
    ∷ answer (split (segment_of (TX (101 ∷ 102 ∷ []) ∷ [])) 1 1 0 1 0)
    ∷ []

in_sequence_table : in_sequence ≡ refused 13 0 ∷ refused 23 0 ∷ refused 14 0 ∷ []
unfolding Accents·all in_sequence
in_sequence_table = refl
