-- Open edits, by computation. Three segments: "A" with target "a"; start 5 and "B", the same with "b"; end 5, the same.
use Rattle.std.specs.Prelude.{ℕ, ◌≡◌, refl, List, [], ◌∷◌, ◌++◌}
use Rattle.xliff.specs.Bytes.{'-', 'C', 'E', 'F', 'O', 'P', 'R', 'S', 'T', 'X', 'Y'}
use Rattle.xliff.specs.Answer.{Answer, accepted, refused, answer}
use Rattle.xliff.specs.Item.{Fields}
use Rattle.xliff.specs.Encode.{Record, spell}
use Rattle.xliff.specs.SetTarget.{SetTarget·all}
use Rattle.xliff.specs.Calls.{SP, JN, ST, RT, RW}
use Rattle.xliff.specs.examples.Notation.{UN, UE, SG, TG, TX, letters, SC, EC}
use Rattle.call_lists.specs.Lists.{after_list}
use Rattle.grants.specs.Grant.{Grant, by_letter}
use Rattle.edits.specs.Edit.{EditCall, plain, OP, CL, DR, GrantedEditCall, edit_outcome, edit_after}
use Rattle.edits.specs.Requests.{'D', 'L', Edited, edited_request, EditRequests·all}
use Rattle.edits.specs.EditLists.{edit_desk, EditLists·all}

five : Fields
five = letters 5 'Y' 'Y' 'Y' 'Y'

text : ℕ → Record
text c = TX (c ∷ [])

table : List Record → List ℕ
table rs = spell (UN 'Y' ∷ (rs ++ (UE ∷ [])))

three : List ℕ
three =
    table
    (SG 1 '-' 'T' ∷ text 65 ∷ TG 1 ∷ text 97 ∷ SG 2 '-' 'R' ∷ SC five ∷ text 66 ∷ TG 2 ∷ SC five ∷ text 98
    ∷ SG 3 '-' 'F' ∷ EC five ∷ TG 3 ∷ EC five ∷ [])

a_translator : List ℕ → Grant
a_translator = by_letter 'T'

an_engineer : Grant
an_engineer = by_letter 'E' []

-- the answer, and the edit after it
pub record Said : Type 0 where
  pub to : Answer
  pub edit : ℕ

said : Answer → ℕ → Said
said a e = record { to = a; edit = e }

try_on : List ℕ → Grant → ℕ → EditCall → Said
try_on t g e c =
    let granted : GrantedEditCall = record { grant = g; call = c } in
    said (answer (edit_outcome t e granted)) (edit_after t e granted)

try : Grant → ℕ → EditCall → Said
try g e c = try_on three g e c

ok : ℕ → ℕ → Said
ok n e = said (accepted n) e

no : ℕ → ℕ → Said
no n e = said (refused n 0) e

Typed·all : Unit {0}
unfolding EditLists·all EditRequests·all SetTarget·all five text table three a_translator an_engineer said try_on try ok
    no
Typed·all = tt

-- Opens: granted; not granted; a part that the table lacks; a second open, of the same part; an edit on a part that the
-- table lacks is none
opens : List Said
opens =
    try (a_translator (2 ∷ [])) 0 (OP 2)
    ∷ try (a_translator (2 ∷ [])) 0 (OP 1)
    ∷ try (a_translator (9 ∷ [])) 0 (OP 9)
    ∷ try (a_translator (2 ∷ [])) 2 (OP 2)
    ∷ try an_engineer 9 (OP 2)
    ∷ []

opens_answered : opens ≡ ok 103 2 ∷ no 24 0 ∷ no 11 0 ∷ no 25 2 ∷ ok 103 2 ∷ []
unfolding Typed·all opens
opens_answered = refl

-- Drops: none open; not granted; granted. Closes: none open; not granted; an unfit state; a new target
ends : List Said
ends =
    try (a_translator (2 ∷ [])) 0 DR
    ∷ try (a_translator (1 ∷ [])) 2 DR
    ∷ try (a_translator (2 ∷ [])) 2 DR
    ∷ try (a_translator []) 0 (CL 'T' [] 8192)
    ∷ try (a_translator (3 ∷ [])) 2 (CL 'T' [] 8192)
    ∷ try (a_translator (2 ∷ [])) 2 (CL 'X' [] 8192)
    ∷ try (a_translator (1 ∷ [])) 1 (CL 'T' (spell (text 120 ∷ [])) 8192)
    ∷ []

ends_answered : ends ≡ no 25 0 ∷ no 24 2 ∷ ok 103 0 ∷ no 25 0 ∷ no 24 2 ∷ no 2 2 ∷ ok 103 0 ∷ []
unfolding Typed·all ends
ends_answered = refl

-- Barred: split, join from either side, set and remove on the part; 11 comes first
barred : List Said
barred =
    try an_engineer 2 (plain (SP 2 1 1 0 8192))
    ∷ try an_engineer 2 (plain (JN 1 8192))
    ∷ try an_engineer 2 (plain (JN 2 8192))
    ∷ try an_engineer 2 (plain (ST 2 'T' [] 8192))
    ∷ try an_engineer 2 (plain (RT 2 8192))
    ∷ try an_engineer 3 (plain (JN 3 8192))
    ∷ try an_engineer 2 (plain (ST 9 'T' [] 8192))
    ∷ []

barred_answered : barred ≡ no 25 2 ∷ no 25 2 ∷ no 25 2 ∷ no 25 2 ∷ no 25 2 ∷ no 11 3 ∷ no 11 2 ∷ []
unfolding Typed·all barred
barred_answered = refl

-- Allowed: an earlier split and an earlier join move the edit, a later split does not; a rewrite is never barred (here
-- its own 21). An edit on a part that the table lacks is none, and 0 after the call; after a refused table it is as
-- given
allowed : List Said
allowed =
    try an_engineer 3 (plain (SP 2 1 1 0 8192))
    ∷ try an_engineer 3 (plain (JN 1 8192))
    ∷ try an_engineer 1 (plain (SP 2 1 1 0 8192))
    ∷ try an_engineer 2 (plain (RW 'S' 5 'P' 8192))
    ∷ try an_engineer 9 (plain (RT 9 8192))
    ∷ try an_engineer 9 DR
    ∷ try_on (table []) an_engineer 9 DR
    ∷ []

allowed_answered : allowed ≡ ok 113 4 ∷ ok 93 2 ∷ ok 113 1 ∷ no 21 2 ∷ no 11 0 ∷ no 25 0 ∷ said (refused 2 3) 9 ∷ []
unfolding Typed·all allowed
allowed_answered = refl

-- A list: open part 3, split part 2, set part 1, close; the close is part 4's
by_engineer : EditCall → GrantedEditCall
by_engineer c = record { grant = an_engineer; call = c }

typed : after_list edit_desk (record { table = three; edit = 0 })
    (by_engineer (OP 3) ∷ by_engineer (plain (SP 2 1 1 0 8192))
    ∷ by_engineer (plain (ST 1 'R' (spell (text 120 ∷ [])) 8192))
    ∷ by_engineer (CL 'T' (spell (text 121 ∷ EC five ∷ [])) 8192) ∷ [])
    ≡ record {
      table = table
          (SG 1 '-' 'R' ∷ text 65 ∷ TG 1 ∷ text 120 ∷ SG 2 '-' 'R' ∷ SC five ∷ TG 2 ∷ SC five
          ∷ SG 0 '-' 'R' ∷ text 66 ∷ TG 3 ∷ text 98 ∷ SG 3 '-' 'T' ∷ EC five ∷ TG 4 ∷ text 121 ∷ EC five ∷ []);
      edit = 0;
    }
unfolding Typed·all by_engineer
typed = refl

-- Requests as bytes, on an output of two bytes: `OP` 2 and `DR` leave it; `DR` with a byte behind it, and `OP` cut
-- short; `CL` without content, which wants an output, and cut short; `RT` of the edit's part
asked : ℕ → List ℕ → Edited
asked e s = edited_request an_engineer e three s (7 ∷ 8 ∷ [])

left_alone : Answer → ℕ → Edited
left_alone a e = record { answer = a; output = 7 ∷ 8 ∷ []; edit = e }

requests : List Edited
requests =
    asked 0 ('O' ∷ 'P' ∷ 0 ∷ 2 ∷ [])
    ∷ asked 2 ('D' ∷ 'R' ∷ [])
    ∷ asked 2 ('D' ∷ 'R' ∷ 0 ∷ [])
    ∷ asked 9 ('O' ∷ 'P' ∷ 0 ∷ [])
    ∷ asked 1 ('C' ∷ 'L' ∷ 'T' ∷ 0 ∷ 0 ∷ [])
    ∷ asked 1 ('C' ∷ 'L' ∷ 'T' ∷ 0 ∷ 1 ∷ [])
    ∷ asked 3 ('R' ∷ 'T' ∷ 0 ∷ 3 ∷ [])
    ∷ []

requests_answered : requests
    ≡ left_alone (accepted 103) 2
    ∷ left_alone (accepted 103) 0
    ∷ left_alone (refused 2 0) 2
    ∷ left_alone (refused 2 0) 0
    ∷ left_alone (refused 15 0) 1
    ∷ left_alone (refused 2 0) 1
    ∷ left_alone (refused 25 0) 3
    ∷ []
unfolding Typed·all asked left_alone requests
requests_answered = refl
