-- Lists of calls with grants: the ungranted calls left out, and demand 3.
use Prim.Native.Nat.{ℕ}
use native.Mathlib.Omega.{arith}
use mathlib.Core.Path.{◌≡◌, refl, ap, ◌∙◌}
use mathlib.Core.Bool.{Bool, true, false, ◌&&◌, cond}
use mathlib.Core.List.{List, [], ◌∷◌}
use Rattle.xliff.specs.Answer.{Outcome, answer, is_accepted, next_table}
use Rattle.xliff.specs.Calls as calls
use Rattle.xliff.specs.Calls.{Call, left, after, one_if, Kind, of_kind, count_accepted, AllGiven}
use Rattle.xliff.proofs.lists.Tests.{and_false}
use Rattle.call_lists.proofs.ListLaws.{Leaves, same_table, same_counts, shared, Any, all_any}
use Rattle.grants.specs.Grant.{GrantedCall, granted, granted_outcome}
use Rattle.grants.specs.GrantedLists.{GivenGranted, granted_desk, made_granted, granted_calls, LeftOut, Demand3Granted}
use Rattle.grants.proofs.OutcomeLaws.{granted_own, ungranted_refused}

leaves : (t : List ℕ) (c : GrantedCall) → next_table (granted_outcome t c) t ≡ after t (made_granted t c)
unfolding made_granted after left next_table
leaves t c = by (granted c.grant t c.call) refl
  where
    by : (b : Bool) → granted c.grant t c.call ≡ b
        → next_table (granted_outcome t c) t ≡ after t (cond b (c.call ∷ []) [])
    by true e = ap (λ (o : Outcome). next_table o t) (granted_own t c e)
    by false e = let (r, k) = ungranted_refused t c e in ap (λ (o : Outcome). next_table o t) k

-- a call counts as often as the calls made
counts : (k : Kind) (t : List ℕ) (c : GrantedCall)
    → one_if (of_kind k c.call && is_accepted (answer (granted_outcome t c))) ≡ count_accepted k t (made_granted t c)
unfolding made_granted count_accepted one_if next_table is_accepted answer
counts k t c = by (granted c.grant t c.call) refl
  where
    counted : Outcome → ℕ
    counted o = one_if (of_kind k c.call && is_accepted (answer o))

    by : (b : Bool) → granted c.grant t c.call ≡ b
        → counted (granted_outcome t c) ≡ count_accepted k t (cond b (c.call ∷ []) [])
    by true e = omega (arith, ap counted (granted_own t c e))
    by false e = let (r, q) = ungranted_refused t c e in ap counted q ∙ ap one_if (and_false (of_kind k c.call))

given : (t : List ℕ) (c : GrantedCall) → GivenGranted c → AllGiven (made_granted t c)
unfolding made_granted
given t c g = by (granted c.grant t c.call)
  where
    by : (b : Bool) → AllGiven (cond b (c.call ∷ []) [])
    by true = calls.one_call g calls.no_call
    by false = calls.no_call

-- THE UNGRANTED CALLS LEFT OUT
pub left_out : LeftOut
unfolding LeftOut granted_calls
left_out t cs =
    let l : Leaves granted_desk made_granted Any Any
    = record { stays = λ s c i g. tt; table = λ s c i g. leaves s c } in
    record {
      table = same_table granted_desk made_granted Any Any l t cs tt (all_any cs);
      counts = λ k. same_counts granted_desk made_granted Any Any l (λ k s c i g. counts k s c) k t cs tt (all_any cs);
    }

-- DEMAND 3
pub both_ends_granted : Demand3Granted
unfolding Demand3Granted
both_ends_granted t cs b g v =
    shared granted_desk made_granted Any GivenGranted (record { stays = λ s c i h. tt; table = λ s c i h. leaves s c })
    (λ k s c i h. counts k s c) (λ s c i h. given s c h) t cs tt b g v
