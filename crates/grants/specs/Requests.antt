-- A request with its grant, as bytes: document 01's notation of requests (`SP` part, cut, cut, id; ..), read as the
-- desk program reads it, on an output of any length.
use Rattle.std.specs.Prelude.{ℕ, cond, List, length, eqb}
use Rattle.std.proofs.Math.Option.{Option, none, some}
use Rattle.xliff.specs.Answer.{Outcome, refuse}
use Rattle.xliff.specs.Check.{table_refusal}
use Rattle.xliff.specs.Calls.{Call, SP, JN, ST, RT, RW}
use Rattle.xliff.specs.Desk.{Request, request, Desk·all}
use Rattle.grants.specs.Grant.{Grant, unless_refused, granted_outcome, Grant·all}

-- a call on an output of this length
unfoldable pub with_room : ℕ → Call → Call
with_room room (SP n source_cut target_cut new lent) = SP n source_cut target_cut new room
with_room room (JN n lent) = JN n room
with_room room (ST n st s lent) = ST n st s room
with_room room (RT n lent) = RT n room
with_room room (RW side i w lent) = RW side i w room

-- one request, and no byte behind it
unfoldable pub alone : List ℕ → Option Request → Option Request
alone s none = none
alone s (some r) = cond (eqb r.size (length s)) (some r) none

-- bytes that are no request are unreadable: 2, at their start
unfoldable pub read_outcome : Grant → List ℕ → ℕ → Option Request → Outcome
read_outcome g t room none = refuse (record { number = 2; place = 0 })
read_outcome g t room (some r) = granted_outcome t (record { grant = g; call = with_room room r.call })

-- "after the table's check"
unfoldable pub granted_request : Grant → List ℕ → List ℕ → ℕ → Outcome
granted_request g t s room = unless_refused (table_refusal t) (read_outcome g t room (alone s (request s)))

unfoldable pub Requests·all : Unit {0}
unfolding Grant·all Desk·all with_room alone read_outcome granted_request
Requests·all = tt
