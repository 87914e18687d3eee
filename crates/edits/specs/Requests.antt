-- A request with its grant and the edit, as bytes: one of document 01's requests, or `OP` part; `CL` state, length,
-- content; `DR`. Parts and lengths are two bytes, the state is a letter.
use Rattle.std.specs.Prelude.{ℕ, ◌+◌, Bool, ◌&&◌, cond, List, length, get_or, take, drop, eqb}
use Rattle.std.proofs.Math.Option.{Option, none, some}
use Rattle.xliff.specs.Bytes.{'C', 'O', 'P', 'R', two_at, enough}
use Rattle.xliff.specs.Answer.{Answer, answer, refuse}
use Rattle.xliff.specs.Parse.{is}
use Rattle.xliff.specs.Check.{table_refusal}
use Rattle.xliff.specs.Desk.{Request, request}
use Rattle.grants.specs.Grant.{Grant, unless_refused}
use Rattle.grants.specs.Requests.{with_room, alone, Requests·all}
use Rattle.edits.specs.Edit.{EditCall, plain, OP, CL, DR, GrantedEditCall, edit_outcome, edit_output, edit_kept, edit_after, Edit·all}

abbrev pub 'D' : ℕ
'D' = 68

abbrev pub 'L' : ℕ
'L' = 76

-- a request of so many bytes, and no byte behind it
unfoldable pub whole : List ℕ → ℕ → EditCall → Option EditCall
whole s n c = cond (eqb n (length s)) (some c) none

unfoldable pub plain_call : ℕ → Option Request → Option EditCall
plain_call room none = none
plain_call room (some r) = some (plain (with_room room r.call))

-- the call that bytes ask for, on an output of this length; none where they are unreadable
unfoldable pub edit_call : ℕ → List ℕ → Option EditCall
edit_call room s =
    let marked : ℕ → ℕ → Bool = λ m n. enough 2 s && is m n (get_or s 0 0) (get_or s 1 0) in
    cond (marked 'O' 'P') (whole s 4 (OP (two_at s 2)))
    (cond (marked 'C' 'L') (whole s (5 + two_at s 3) (CL (get_or s 2 0) (take (two_at s 3) (drop 5 s)) room))
    (cond (marked 'D' 'R') (whole s 2 DR) (plain_call room (alone s (request s)))))

-- what a call comes to: its answer, the lent output after it, and the edit after it
pub record Edited : Type 0 where
  pub answer : Answer
  pub output : List ℕ
  pub edit : ℕ

unfoldable pub edited : List ℕ → ℕ → GrantedEditCall → List ℕ → Edited
edited t e c lent =
    record {
      answer = answer (edit_outcome t e c);
      output = edit_output c.call (edit_outcome t e c) lent;
      edit = edit_after t e c;
    }

-- bytes that are no request: 2, at their start, after the table's check
unfoldable pub unreadable : List ℕ → ℕ → List ℕ → Edited
unreadable t e lent =
    record {
      answer = answer (unless_refused (table_refusal t) (refuse (record { number = 2; place = 0 })));
      output = lent;
      edit = edit_kept t e;
    }

unfoldable pub read_edited : Grant → ℕ → List ℕ → List ℕ → Option EditCall → Edited
read_edited g e t lent none = unreadable t e lent
read_edited g e t lent (some c) = edited t e (record { grant = g; call = c }) lent

unfoldable pub edited_request : Grant → ℕ → List ℕ → List ℕ → List ℕ → Edited
edited_request g e t s lent = read_edited g e t lent (edit_call (length lent) s)

unfoldable pub EditRequests·all : Unit {0}
unfolding Edit·all Requests·all whole plain_call edit_call edited unreadable read_edited edited_request
EditRequests·all = tt
