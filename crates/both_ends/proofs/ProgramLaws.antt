-- Demand 3 of the desk program, from that of every list of calls.
use Prim.Native.Nat.{ℕ, zero, suc, ◌+◌, ◌<◌}
use mathlib.Core.Path.{◌≡◌, refl, sym, ap, ◌∙◌}
use mathlib.Core.Bool.{Bool, true, false, ◌&&◌, cond}
use mathlib.Core.List.{List, [], ◌∷◌, ◌++◌, append_assoc}
use mathlib.Core.Option.{Option, none, some}
use native.Mathlib.Omega.{arith}
use lib.ListN.{length, take, drop, get_or}
use mir.Val.{Fits}
use mir.Syntax.{w8}
use Rattle.xliff.specs.Bytes.{Bytes, two_at, enough, gather}
use Rattle.xliff.specs.Answer.{answer}
use Rattle.xliff.specs.Parse.{is}
use Rattle.xliff.specs.Check.{Valid}
use Rattle.xliff.specs.Calls.{Call, SP, JN, ST, RT, RW, outcome, left, after, answers, Given, AllGiven, no_call, one_call}
use Rattle.xliff.specs.Desk.{Request, lent, asked, request, line, table_line, table_length, answer_requests, desk_job, desk, most_job}
use Rattle.xliff.specs.BothEnds.{Demand3}
use Rattle.xliff.proofs.lists.Tests.{byte_at}
use Rattle.xliff.proofs.unit.Table.{bytes_drop}
use Rattle.xliff.proofs.both_ends.Demand3.{both_ends}
use Rattle.table.proofs.WidthLaws.{bytes_known}
use Rattle.part_at.proofs.HoldLaws.{bytes_take}
use Rattle.both_ends.specs.Received.{job_of, sent, calls_from, calls, unreadable_from, unreadable, Meets, Demand3OfTheProgram}

two_small : (s : List ℕ) (i : ℕ) → Bytes s → two_at s i < 65536
unfolding two_at
two_small s i h = omega (arith, byte_at s i h, byte_at s (suc i) h)

-- A request has arguments that its operation can be given
abbrev Giving : Option Request → Type 0
Giving none = Unit {0}
Giving (some r) = Given r.call

asked_given : (s : List ℕ) (n : ℕ) (c : Call) → Given c → Giving (asked s n c)
unfolding asked
asked_given s n c g = by (enough n s)
  where
    by : (b : Bool) → Giving (cond b (some (record { call = c; size = n })) none)
    by true = g
    by false = tt

if_given : (b : Bool) (x y : Option Request) → Giving x → Giving y → Giving (cond b x y)
if_given true x y g h = g
if_given false x y g h = h

request_given : (s : List ℕ) → Bytes s → Giving (request s)
unfolding request
request_given s h =
    if_given (enough 2 s && is 83 80 (get_or s 0 0) (get_or s 1 0)) _ _
    (asked_given s 10 (SP (two_at s 2) (two_at s 4) (two_at s 6) (two_at s 8) lent) (two_small s 8 h))
    (if_given (enough 2 s && is 74 78 (get_or s 0 0) (get_or s 1 0)) _ _ (asked_given s 4 (JN (two_at s 2) lent) tt)
    (if_given (enough 2 s && is 83 84 (get_or s 0 0) (get_or s 1 0)) _ _
    (if_given (enough 7 s) _ none (asked_given s (7 + two_at s 5) (ST (two_at s 2) (get_or s 4 0) (take (two_at s 5) (drop 7 s)) lent) (bytes_take (two_at s 5) (drop 7 s) (bytes_drop 7 s h))) tt)
    (if_given (enough 2 s && is 82 84 (get_or s 0 0) (get_or s 1 0)) _ _ (asked_given s 4 (RT (two_at s 2) lent) tt)
    (if_given (enough 2 s && is 82 87 (get_or s 0 0) (get_or s 1 0)) _ none (asked_given s 6 (RW (get_or s 2 0) (two_at s 3) (get_or s 5 0) lent) tt) tt))))

calls_given : (f : ℕ) (s : List ℕ) → Bytes s → AllGiven (calls_from f s)
unfolding calls_from
calls_given zero s h = no_call
calls_given (suc f) [] h = no_call
calls_given (suc f) (b ∷ s) h = by (request (b ∷ s)) (request_given (b ∷ s) h) (λ k. calls_given f (drop k (b ∷ s)) (bytes_drop k (b ∷ s) h))
  where
    by : (o : Option Request) → Giving o → ((k : ℕ) → AllGiven (calls_from f (drop k (b ∷ s)))) → AllGiven (elim o [ none ↦ [] | some r ↦ r.call ∷ calls_from f (drop r.size (b ∷ s)) ])
    by none g rest = no_call
    by (some r) g rest = one_call g (rest r.size)

-- What is printed: the answers, an unreadable request's line, the table
printed : ℕ → List ℕ → ℕ → List ℕ → List ℕ
printed f t at s = gather line (answers t (calls_from f s)) ++ (unreadable_from f at s ++ table_line (after t (calls_from f s)))

lines_are : (f : ℕ) (t : List ℕ) (at : ℕ) (s : List ℕ) → answer_requests f t at s ≡ printed f t at s
unfolding answer_requests calls_from unreadable_from answers after gather printed
lines_are zero t at s = refl
lines_are (suc f) t at [] = refl
lines_are (suc f) t at (b ∷ s) = by (request (b ∷ s)) refl (λ u i k. lines_are f u i (drop k (b ∷ s)))
  where
    by : (o : Option Request) → request (b ∷ s) ≡ o → ((u : List ℕ) (i k : ℕ) → answer_requests f u i (drop k (b ∷ s)) ≡ printed f u i (drop k (b ∷ s)))
        → answer_requests (suc f) t at (b ∷ s) ≡ printed (suc f) t at (b ∷ s)
    by none e rest = rw (answer_requests, printed, calls_from, unreadable_from, e) refl
    by (some r) e rest = rw (answer_requests, printed, calls_from, unreadable_from, e)
        (ap (λ (l : List ℕ). line (answer (outcome t r.call)) ++ l) (rest (left t r.call) (at + r.size) r.size)
        ∙ sym (append_assoc (line (answer (outcome t r.call))) (gather line (answers (left t r.call) (calls_from f (drop r.size (b ∷ s))))) _))

bytes_job : (input : List ℕ) → Bytes input → Bytes (job_of input)
unfolding job_of
bytes_job input h = bytes_take most_job input h

bytes_sent : (job : List ℕ) → Bytes job → Bytes (sent job)
unfolding sent
bytes_sent job h = bytes_take (table_length job) job h

given_calls : (job : List ℕ) → Bytes job → AllGiven (calls job)
unfolding calls
given_calls job h = calls_given (length job) (drop (table_length job) job) (bytes_drop (table_length job) job h)

desk_prints : (input : List ℕ) → Valid (sent (job_of input))
    → desk input ≡ gather line (answers (sent (job_of input)) (calls (job_of input))) ++ (unreadable (job_of input) ++ table_line (after (sent (job_of input)) (calls (job_of input))))
unfolding desk desk_job Valid sent calls unreadable printed job_of
desk_prints input v =
    rw (desk_job, v)
    (lines_are (length (take most_job input))
    (take (table_length (take most_job input)) (take most_job input))
    (table_length (take most_job input))
    (drop (table_length (take most_job input)) (take most_job input)))

-- DEMAND 3, OF THE PROGRAM
pub program_both_ends : Demand3OfTheProgram
unfolding Demand3 Demand3OfTheProgram
program_both_ends input h v =
    record {
      prints = desk_prints input v;
      both_ends = both_ends (sent (job_of input)) (calls (job_of input)) (bytes_sent (job_of input) (bytes_job input h)) (given_calls (job_of input) (bytes_job input h)) v;
    }

pub input_meets : (input : List ℕ) → ((i : ℕ) → Fits w8 (get_or input i 0)) → Meets input
unfolding Demand3OfTheProgram Meets
input_meets input h = program_both_ends input (bytes_known input h)
