-- Split and rejoin (document 02, order 11), by computation: pc 5 around mrk 6 in the source, mrk 6 around pc 5 in the
-- target, cut inside them on both sides and then joined.
use Rattle.std.specs.Prelude.{ℕ, ◌≡◌, refl, true, List, [], ◌∷◌}
use Rattle.xliff.specs.Bytes.{'-', 'Y', 'T'}
use Rattle.xliff.specs.Answer.{result, refuse, next_table}
use Rattle.xliff.specs.Item.{Fields, Form, form_P, form_S, start, end, pair, annotation_start, annotation_end}
use Rattle.xliff.specs.Encode.{Record, inline, spell}
use Rattle.xliff.specs.Split.{split}
use Rattle.xliff.specs.Join.{join}
use Rattle.xliff.specs.Rejoin.{SplitJoin, open_at_cuts, turned_table, splits, all_accepted, all_open, rejoined, Rejoin·all}
use Rattle.xliff.specs.examples.Notation.{UN, UE, SG, TG, TX, letters, PO, PC}

free : ℕ → Fields
free i = letters i 'Y' 'Y' 'Y' 'Y'

-- the halves of a pair and of an annotation in either form
pair_start : Form → ℕ → Record
pair_start w i = inline (pair start w (free i))

pair_end : Form → ℕ → Record
pair_end w i = inline (pair end w (free i))

note_start : Form → ℕ → Record
note_start w i = inline (annotation_start w i '-')

note_end : Form → ℕ → Record
note_end w i = inline (annotation_end w i)

-- A part "Z" with a target of order 1; then a part with a target of order 2: source "A" pc 5 ( "B" mrk 6 ( "C" ) )
-- pc 7 ( "D" ), target mrk 6 ( "a" pc 5 ( "b" ) ) pc 7 ( "d" ). The forms are those of pc 5 and mrk 6 in the source,
-- then in the target
table : Form → Form → Form → Form → List ℕ
table v w x y =
    spell
    (UN 'Y' ∷ SG 1 '-' 'T' ∷ TX (90 ∷ []) ∷ TG 1 ∷ TX (122 ∷ [])
    ∷ SG 2 'Y' 'T' ∷ TX (65 ∷ []) ∷ pair_start v 5 ∷ TX (66 ∷ []) ∷ note_start w 6 ∷ TX (67 ∷ []) ∷ note_end w 6 ∷ pair_end v 5
    ∷ PO (free 7) ∷ TX (68 ∷ []) ∷ PC (free 7)
    ∷ TG 2 ∷ note_start y 6 ∷ TX (97 ∷ []) ∷ pair_start x 5 ∷ TX (98 ∷ []) ∷ pair_end x 5 ∷ note_end y 6
    ∷ PO (free 7) ∷ TX (100 ∷ []) ∷ PC (free 7) ∷ UE ∷ [])

original : List ℕ
original = table form_P form_P form_P form_P

Example·all : Unit {0}
unfolding Rejoin·all free pair_start pair_end note_start note_end table original
Example·all = tt

-- Cut behind "B" and behind "b": pc 5 is open in the source, both are open in the target. The table has 184 bytes
halves : List ℕ
halves = next_table (split original 2 3 4 9 8192) []

one_join : join halves 2 184 ≡ result (table form_S form_P form_S form_S)
unfolding Example·all halves
one_join = refl

too_short : join halves 2 183 ≡ refuse (record { number = 15; place = 0 })
unfolding Example·all halves
too_short = refl

as_stated : turned_table (open_at_cuts original 2 3 4) original ≡ table form_S form_P form_S form_S
unfolding Example·all
as_stated = refl

-- Three splits: behind "C" and "a", where pc 5 and mrk 6 are open in the source and mrk 6 in the target; the first half
-- again, behind "A" and at 0; and the second half again, before pc 7 and inside pc 5 of the target. Undone in reverse
-- sequence, pc 7 is as it was
three : List SplitJoin
three =
    record { part = 2; source_cut = 5; target_cut = 2; new_id = 9; split_room = 8192; join_room = 8192 }
    ∷ record { part = 2; source_cut = 1; target_cut = 0; new_id = 10; split_room = 8192; join_room = 8192 }
    ∷ record { part = 4; source_cut = 2; target_cut = 1; new_id = 11; split_room = 8192; join_room = 8192 } ∷ []

all_split : all_accepted original (splits three) ≡ true
unfolding Example·all three
all_split = refl

three_undone : rejoined original three ≡ table form_S form_S form_S form_S
unfolding Example·all three
three_undone = refl

three_stated : turned_table (all_open original three) original ≡ table form_S form_S form_S form_S
unfolding Example·all three
three_stated = refl
