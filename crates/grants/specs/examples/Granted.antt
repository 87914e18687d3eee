-- Grants and views, by computation. Three segments: "A" with target "a"; start 5 and "B", the same with "b"; end 5, the
-- same.
use Rattle.std.specs.Prelude.{ℕ, ◌≡◌, refl, List, [], ◌∷◌, ◌++◌}
use Rattle.xliff.specs.Bytes.{'-', 'E', 'F', 'I', 'P', 'R', 'S', 'T', 'X', 'Y'}
use Rattle.xliff.specs.Answer.{Outcome, result, refuse}
use Rattle.xliff.specs.Item.{Fields}
use Rattle.xliff.specs.Encode.{Record, spell}
use Rattle.xliff.specs.SetTarget.{SetTarget·all}
use Rattle.xliff.specs.Calls.{Call, JN, ST, RT, RW}
use Rattle.xliff.specs.examples.Notation.{UN, UE, SG, TG, TX, letters, SC, EC}
use Rattle.grants.specs.Grant.{Grant, by_letter, granted_outcome}
use Rattle.grants.specs.View.{view, View·all}
use Rattle.grants.specs.Requests.{granted_request, Requests·all}

five : Fields
five = letters 5 'Y' 'Y' 'Y' 'Y'

text : ℕ → Record
text c = TX (c ∷ [])

first : List Record
first = SG 1 '-' 'T' ∷ text 65 ∷ TG 1 ∷ text 97 ∷ []

first_shown : List Record
first_shown = SG 1 '-' 'I' ∷ text 65 ∷ []

second : List Record
second = SG 2 '-' 'R' ∷ SC five ∷ text 66 ∷ TG 2 ∷ SC five ∷ text 98 ∷ []

second_shown : List Record
second_shown = SG 2 '-' 'I' ∷ SC five ∷ text 66 ∷ []

third : List Record
third = SG 3 '-' 'F' ∷ EC five ∷ TG 3 ∷ EC five ∷ []

third_shown : List Record
third_shown = SG 3 '-' 'I' ∷ EC five ∷ []

table : List Record → List ℕ
table rs = spell (UN 'Y' ∷ (rs ++ (UE ∷ [])))

three : List ℕ
three = table (first ++ second ++ third)

a_translator : List ℕ → Grant
a_translator = by_letter 'T'

a_reviewer : List ℕ → Grant
a_reviewer = by_letter 'R'

an_engineer : Grant
an_engineer = by_letter 'E' []

try : Grant → Call → Outcome
try g c = granted_outcome three (record { grant = g; call = c })

no : ℕ → Outcome
no n = refuse (record { number = n; place = 0 })

Granted·all : Unit {0}
unfolding View·all SetTarget·all Requests·all five text first first_shown second second_shown third third_shown table
    three a_translator a_reviewer an_engineer try no
Granted·all = tt

-- Views
own_part : view three (a_translator (1 ∷ [])) 8192 ≡ result (table (first ++ second_shown ++ third_shown))
unfolding Granted·all
own_part = refl

-- a position twice, 0 or beyond the table has no effect
own_parts : view three (a_reviewer (3 ∷ 2 ∷ 0 ∷ 3 ∷ 9 ∷ [])) 8192 ≡ result (table (first_shown ++ second ++ third))
unfolding Granted·all
own_parts = refl

whole_table : view three an_engineer 8192 ≡ result three
unfolding Granted·all
whole_table = refl

other_letter : view three (by_letter 'X' (1 ∷ 2 ∷ 3 ∷ [])) 8192
    ≡ result (table (first_shown ++ second_shown ++ third_shown))
unfolding Granted·all
other_letter = refl

-- a view of 66 bytes
view_15 : view three (a_translator (1 ∷ [])) 65 ≡ no 15
unfolding Granted·all
view_15 = refl

view_of_refused : view (table []) an_engineer 8192 ≡ refuse (record { number = 2; place = 3 })
unfolding Granted·all
view_of_refused = refl

-- Calls: a translator's own part, another's, and a granted position that the table lacks
set_own : try (a_translator (1 ∷ [])) (ST 1 'T' (spell (text 120 ∷ [])) 8192)
    ≡ result (table (SG 1 '-' 'T' ∷ text 65 ∷ TG 1 ∷ text 120 ∷ (second ++ third)))
unfolding Granted·all
set_own = refl

set_other : try (a_translator (1 ∷ [])) (ST 2 'T' (spell (text 120 ∷ [])) 8192) ≡ no 24
unfolding Granted·all
set_other = refl

set_beyond : try (a_translator (5 ∷ [])) (ST 5 'T' (spell (text 120 ∷ [])) 8192) ≡ no 11
unfolding Granted·all
set_beyond = refl

remove_own : try (a_translator (1 ∷ [])) (RT 1 8192) ≡ result (table (first_shown ++ second ++ third))
unfolding Granted·all
remove_own = refl

-- Rewrites: a translator's never; a reviewer's where both halves are granted (then its own 21: the two are not in one
-- content)
rewrite_translator : try (a_translator (1 ∷ 2 ∷ 3 ∷ [])) (RW 'S' 5 'P' 8192) ≡ no 24
unfolding Granted·all
rewrite_translator = refl

rewrite_start_alone : try (a_reviewer (2 ∷ [])) (RW 'S' 5 'P' 8192) ≡ no 24
unfolding Granted·all
rewrite_start_alone = refl

rewrite_end_alone : try (a_reviewer (1 ∷ 3 ∷ [])) (RW 'T' 5 'P' 8192) ≡ no 24
unfolding Granted·all
rewrite_end_alone = refl

rewrite_both : try (a_reviewer (2 ∷ 3 ∷ [])) (RW 'S' 5 'P' 8192) ≡ no 21
unfolding Granted·all
rewrite_both = refl

-- a wrong form letter on a granted one is 2, a wrong side letter 24, an id without pair 24
rewrite_form : try (a_reviewer (2 ∷ 3 ∷ [])) (RW 'S' 5 'X' 8192) ≡ no 2
unfolding Granted·all
rewrite_form = refl

rewrite_side : try (a_reviewer (2 ∷ 3 ∷ [])) (RW 'X' 5 'P' 8192) ≡ no 24
unfolding Granted·all
rewrite_side = refl

rewrite_no_pair : try (a_reviewer (1 ∷ 2 ∷ 3 ∷ [])) (RW 'S' 7 'P' 8192) ≡ no 24
unfolding Granted·all
rewrite_no_pair = refl

-- Split and join are an engineer's alone
join_reviewer : try (a_reviewer (1 ∷ 2 ∷ 3 ∷ [])) (JN 1 8192) ≡ no 24
unfolding Granted·all
join_reviewer = refl

join_engineer : try an_engineer (JN 1 8192)
    ≡ result
    (table
    (SG 1 '-' 'T' ∷ text 65 ∷ SC five ∷ text 66 ∷ TG 1 ∷ text 97 ∷ SC five ∷ text 98
    ∷ SG 3 '-' 'F' ∷ EC five ∷ TG 2 ∷ EC five ∷ []))
unfolding Granted·all
join_engineer = refl

-- "after the table's check and before everything else"
refused_table : granted_outcome (table []) (record { grant = a_translator []; call = RT 1 0 })
    ≡ refuse (record { number = 2; place = 3 })
unfolding Granted·all
refused_table = refl

-- Requests as bytes: `RT` 1, on an output of 94 bytes and of 93; with a byte behind it, and cut short
request_read : granted_request (a_translator (1 ∷ [])) three (82 ∷ 84 ∷ 0 ∷ 1 ∷ []) 94
    ≡ result (table (first_shown ++ second ++ third))
unfolding Granted·all
request_read = refl

request_15 : granted_request (a_translator (1 ∷ [])) three (82 ∷ 84 ∷ 0 ∷ 1 ∷ []) 93 ≡ no 15
unfolding Granted·all
request_15 = refl

request_24 : granted_request (a_translator (2 ∷ [])) three (82 ∷ 84 ∷ 0 ∷ 1 ∷ []) 0 ≡ no 24
unfolding Granted·all
request_24 = refl

request_longer : granted_request (a_translator (1 ∷ [])) three (82 ∷ 84 ∷ 0 ∷ 1 ∷ 0 ∷ []) 8192 ≡ no 2
unfolding Granted·all
request_longer = refl

request_cut : granted_request (a_translator (1 ∷ [])) three (82 ∷ 84 ∷ 0 ∷ []) 8192 ≡ no 2
unfolding Granted·all
request_cut = refl
