-- Document 02, order 6: "In lists an ungranted call is a refused one, and Merger and Extractor agree as before."
-- Statements, not their proofs.
use Rattle.std.specs.Prelude.{ℕ, ◌≡◌, cond, List, [], ◌∷◌}
use Rattle.xliff.specs.Bytes.{Bytes}
use Rattle.xliff.specs.Answer.{answer, is_accepted, next_table}
use Rattle.xliff.specs.Check.{Valid}
use Rattle.xliff.specs.Calls.{Call, after, Kind, of_kind, count_accepted, Given}
use Rattle.call_lists.specs.Lists.{AllGivenBy, Desk, after_list, count_list, SharedBy, all_made, Lists·all}
use Rattle.grants.specs.Grant.{GrantedCall, granted, granted_outcome, Grant·all}

abbrev pub GivenGranted : GrantedCall → Type 0
GivenGranted c = Given c.call

-- each call has its own grant; the table is all that is kept from call to call
abbrev pub granted_desk : Desk (List ℕ) GrantedCall
granted_desk =
    record {
      table = λ t. t;
      left = λ t c. next_table (granted_outcome t c) t;
      accepts = λ t c. is_accepted (answer (granted_outcome t c));
      counts_as = λ k c. of_kind k c.call;
    }

-- the list without the ungranted calls
unfoldable pub made_granted : List ℕ → GrantedCall → List Call
made_granted t c = cond (granted c.grant t c.call) (c.call ∷ []) []

unfoldable pub granted_calls : List ℕ → List GrantedCall → List Call
granted_calls t cs = all_made granted_desk made_granted t cs

-- "In lists an ungranted call is a refused one": the table and the counts are those of the list without them
pub record SameAsLeftOut (sent : List ℕ) (calls : List GrantedCall) : Type 0 where
  pub table : after_list granted_desk sent calls ≡ after sent (granted_calls sent calls)
  pub counts : (k : Kind) → count_list granted_desk k sent calls ≡ count_accepted k sent (granted_calls sent calls)

unfoldable pub LeftOut : Type 0
LeftOut = (sent : List ℕ) (calls : List GrantedCall) → SameAsLeftOut sent calls

-- "and Merger and Extractor agree as before": demand 3 for lists of calls, each with its own grant
unfoldable pub Demand3Granted : Type 0
Demand3Granted =
    (sent : List ℕ) (calls : List GrantedCall) → Bytes sent → AllGivenBy GivenGranted calls → Valid sent
    → SharedBy granted_desk sent calls

unfoldable pub GrantedLists·all : Unit {0}
unfolding Grant·all Lists·all made_granted granted_calls
GrantedLists·all = tt
