-- What the requests of the code mean.
use Rattle.std.specs.Prelude.{ℕ, ◌+◌, ◌≤◌, ◌≡◌, List, length, take, drop, Option as RustOption, Some, None}
use Rattle.std.proofs.Math.Option.{Option, none, some}
use Rattle.xliff.specs.Calls.{Call, SP, JN, ST, RT, RW}
use Rattle.xliff.specs.Desk as desk
use Rattle.xliff.specs.Desk.{lent}
use Rattle.requests.specs.declared.Request.{Request}
use Rattle.requests.specs.declared.Request.TheVariants.{Split, Join, SetTarget, RemoveTarget, Rewrite}

-- the call that a request at the head of s asks for, on an output of so many bytes; the content of set target stands
-- behind its first seven bytes
abbrev pub call_with : ℕ → List ℕ → Request → Call
call_with room s (Split n source_cut target_cut new) = SP n source_cut target_cut new room
call_with room s (Join n) = JN n room
call_with room s (SetTarget n st k) = ST n st (take k (drop 7 s)) room
call_with room s (RemoveTarget n) = RT n room
call_with room s (Rewrite side i w) = RW side i w room

-- "lends outputs of 8,192 bytes"
abbrev pub call_of : List ℕ → Request → Call
call_of s r = call_with lent s r

abbrev pub request_size : Request → ℕ
request_size (Split n source_cut target_cut new) = 10
request_size (Join n) = 4
request_size (SetTarget n st k) = 7 + k
request_size (RemoveTarget n) = 4
request_size (Rewrite side i w) = 6

abbrev pub asked_meaning : List ℕ → RustOption Request → Option desk.Request
asked_meaning s (Some r) = some (record { call = call_of s r; size = request_size r })
asked_meaning s None = none

-- no request is shorter than 4 bytes, none longer than what is there
abbrev pub SizeIn : List ℕ → RustOption Request → Type 0
SizeIn s (Some r) = (4 ≤ request_size r) × (request_size r ≤ length s)
SizeIn s None = Unit {0}

-- what was read at the head of s is the specification's request
abbrev pub Asks : List ℕ → RustOption Request → Option desk.Request → Type 0
Asks s a q = (asked_meaning s a ≡ q) × SizeIn s a
