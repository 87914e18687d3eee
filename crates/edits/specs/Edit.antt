-- Document 02, order 7: calls while a target edit is open. An edit is a number: 0 where none is open, else the position
-- of its part now.
use Rattle.std.specs.Prelude.{ℕ, suc, ◌-◌, Bool, not, ◌||◌, cond, List, [], ◌∷◌, eqb, ltb}
use Rattle.std.proofs.Math.Option.{Option, none, some}
use Rattle.xliff.specs.Bytes.{among, any}
use Rattle.xliff.specs.Answer.{Refusal, applies, ◌then◌, answer, Outcome, result, output, is_accepted}
use Rattle.xliff.specs.Check.{table_refusal}
use Rattle.xliff.specs.Calls.{Call, SP, JN, ST, RT, RW, outcome}
use Rattle.xliff.specs.BothEnds.{part_count}
use Rattle.grants.specs.Grant.{Grant, within, granted, unless_refused, Grant·all}

-- "At most one target edit is open, on one part: opened, then closed with a state and content, or dropped."
pub data EditCall : Type 0 where
  -- one of the five calls
  plain : Call → EditCall
  -- open: part
  OP : ℕ → EditCall
  -- close: state, content, and last the length of the lent output
  CL : ℕ → List ℕ → ℕ → EditCall
  -- drop
  DR : EditCall

pub record GrantedEditCall : Type 0 where
  pub grant : Grant
  pub call : EditCall

-- no such part
unfoldable pub lacks : List ℕ → ℕ → Bool
lacks t n = eqb n 0 || ltb (part_count t) n

-- "An edit on a part the table lacks counts as none."
unfoldable pub edit_now : List ℕ → ℕ → ℕ
edit_now t e = cond (lacks t e) 0 e

-- "Until then every other call is allowed except split, set and remove on that part and a join with it." The parts that
-- a call is on; a rewrite is on none
unfoldable pub parts_of : Call → List ℕ
parts_of (SP n source_cut target_cut new room) = n ∷ []
parts_of (JN n room) = n ∷ suc n ∷ []
parts_of (ST n st s room) = n ∷ []
parts_of (RT n room) = n ∷ []
parts_of (RW side i w room) = []

-- "Answers: 25, second open, close or drop with none open, or a barred call, after 11." "All three need the grant of a
-- setting there (a close or drop with none open needs none)." What is asked before a call's own refusals, where the edit
-- is 0 or on a part of the table
unfoldable pub edit_refusal : List ℕ → ℕ → Grant → EditCall → Option Refusal
edit_refusal t e g (plain c) =
    table_refusal t then applies 24 (not (granted g t c)) then applies 11 (any (lacks t) (parts_of c))
    then applies 25 (among e (parts_of c))
edit_refusal t e g (OP n) =
    table_refusal t then applies 24 (not (within g n)) then applies 11 (lacks t n) then applies 25 (not (eqb e 0))
edit_refusal t e g (CL st s room) = table_refusal t then applies 25 (eqb e 0) then applies 24 (not (within g e))
edit_refusal t e g DR = table_refusal t then applies 25 (eqb e 0) then applies 24 (not (within g e))

-- "Closing sets the target by the rules and refusals of that moment". "Opening and dropping .. give the table's length"
unfoldable pub edit_own : List ℕ → ℕ → EditCall → Outcome
edit_own t e (plain c) = outcome t c
edit_own t e (OP n) = result t
edit_own t e (CL st s room) = outcome t (ST e st s room)
edit_own t e DR = result t

unfoldable pub edit_outcome : List ℕ → ℕ → GrantedEditCall → Outcome
edit_outcome t e c =
    let now = edit_now t e in
    unless_refused (edit_refusal t now c.grant c.call) (edit_own t now c.call)

-- the lent output after a call. "Opening and dropping have no output"
unfoldable pub edit_output : EditCall → Outcome → List ℕ → List ℕ
edit_output (plain c) o lent = output o lent
edit_output (OP n) o lent = lent
edit_output (CL st s room) o lent = output o lent
edit_output DR o lent = lent

-- "The edit follows its part when earlier splits and joins move it."
unfoldable pub follow : ℕ → Call → ℕ
follow e (SP n source_cut target_cut new room) = cond (ltb n e) (suc e) e
follow e (JN n room) = cond (ltb n e) (e - 1) e
follow e (ST n st s room) = e
follow e (RT n room) = e
follow e (RW side i w room) = e

-- the edit after an accepted call
unfoldable pub next_edit : ℕ → EditCall → ℕ
next_edit e (plain c) = follow e c
next_edit e (OP n) = n
next_edit e (CL st s room) = 0
next_edit e DR = 0

-- the edit after a refused call: "a refused close leaves the edit open". Where the table itself is refused, it is as
-- given
unfoldable pub edit_kept : List ℕ → ℕ → ℕ
edit_kept t e = elim (table_refusal t) [ none ↦ edit_now t e | some r ↦ e ]

unfoldable pub edit_after : List ℕ → ℕ → GrantedEditCall → ℕ
edit_after t e c =
    cond (is_accepted (answer (edit_outcome t e c))) (next_edit (edit_now t e) c.call) (edit_kept t e)

unfoldable pub Edit·all : Unit {0}
unfolding Grant·all part_count lacks edit_now parts_of edit_refusal edit_own edit_outcome edit_output follow next_edit
    edit_kept edit_after
Edit·all = tt
