-- Document 02, order 7: "In lists an accepted close counts as a setting." Statements, not their proofs.
use Rattle.std.specs.Prelude.{ℕ, ◌≡◌, Bool, false, List, [], ◌∷◌, eqb}
use Rattle.std.proofs.Math.Option.{Option, none, some}
use Rattle.xliff.specs.Bytes.{Bytes}
use Rattle.xliff.specs.Answer.{Refusal, answer, is_accepted, next_table}
use Rattle.xliff.specs.Check.{Valid}
use Rattle.xliff.specs.Calls.{Call, ST, after, Kind, a_setting, kind_number, of_kind, count_accepted, Given}
use Rattle.call_lists.specs.Lists.{AllGivenBy, Desk, after_list, count_list, SharedBy, all_made, Lists·all}
use Rattle.edits.specs.Edit.{EditCall, plain, OP, CL, DR, GrantedEditCall, edit_now, edit_refusal, edit_outcome, edit_after, Edit·all}

-- what is kept from call to call
pub record Editing : Type 0 where
  pub table : List ℕ
  pub edit : ℕ

unfoldable pub edit_left : Editing → GrantedEditCall → Editing
edit_left s c =
    record {
      table = next_table (edit_outcome s.table s.edit c) s.table;
      edit = edit_after s.table s.edit c;
    }

unfoldable pub edit_accepts : Editing → GrantedEditCall → Bool
edit_accepts s c = is_accepted (answer (edit_outcome s.table s.edit c))

unfoldable pub edit_of_kind : Kind → EditCall → Bool
edit_of_kind k (plain c) = of_kind k c
edit_of_kind k (OP n) = false
edit_of_kind k (CL st s room) = eqb (kind_number a_setting) (kind_number k)
edit_of_kind k DR = false

-- each call has its own grant
abbrev pub edit_desk : Desk Editing GrantedEditCall
edit_desk =
    record {
      table = λ s. s.table;
      left = edit_left;
      accepts = edit_accepts;
      counts_as = λ k c. edit_of_kind k c.call;
    }

-- arguments that a call can be given
abbrev pub GivenEdit : EditCall → Type 0
GivenEdit (plain c) = Given c
GivenEdit (OP n) = Unit {0}
GivenEdit (CL st s room) = Bytes s
GivenEdit DR = Unit {0}

abbrev pub GivenGrantedEdit : GrantedEditCall → Type 0
GivenGrantedEdit c = GivenEdit c.call

-- the calls of document 01 that a call comes to: itself, the setting of a close, or none
unfoldable pub comes_to : ℕ → EditCall → List Call
comes_to e (plain c) = c ∷ []
comes_to e (OP n) = []
comes_to e (CL st s room) = ST e st s room ∷ []
comes_to e DR = []

unfoldable pub unless_barred : Option Refusal → List Call → List Call
unless_barred none cs = cs
unless_barred (some r) cs = []

unfoldable pub made_edit : Editing → GrantedEditCall → List Call
made_edit s c =
    let e = edit_now s.table s.edit in
    unless_barred (edit_refusal s.table e c.grant c.call) (comes_to e c.call)

unfoldable pub edit_calls : Editing → List GrantedEditCall → List Call
edit_calls s cs = all_made edit_desk made_edit s cs

-- "In lists an accepted close counts as a setting": the table and the counts are those of the list in which a close is
-- the setting that it makes, and calls that are barred, opens and drops are left out
pub record SameAsSettings (s : Editing) (calls : List GrantedEditCall) : Type 0 where
  pub table : (after_list edit_desk s calls).table ≡ after s.table (edit_calls s calls)
  pub counts : (k : Kind) → count_list edit_desk k s calls ≡ count_accepted k s.table (edit_calls s calls)

unfoldable pub EditsMade : Type 0
EditsMade = (s : Editing) (calls : List GrantedEditCall) → SameAsSettings s calls

-- demand 3 for lists of calls with edits, each with its own grant, whatever the edit is at first
unfoldable pub Demand3Edits : Type 0
Demand3Edits =
    (s : Editing) (calls : List GrantedEditCall) → Bytes s.table → AllGivenBy GivenGrantedEdit calls
    → Valid s.table → SharedBy edit_desk s calls

unfoldable pub EditLists·all : Unit {0}
unfolding Edit·all Lists·all edit_left edit_accepts edit_of_kind comes_to unless_barred made_edit edit_calls
EditLists·all = tt
