-- A request with its grant: refused with its table, unreadable, not granted, or its own outcome.
use Prim.Native.Nat.{ℕ, ◌≤◌}
use mathlib.Core.Path.{◌≡◌, refl, sym, ap, ap₂, ◌∙◌, subst}
use mathlib.Core.Bool.{Bool, true, false, cond}
use mathlib.Core.List.{List}
use mathlib.Core.Option.{Option, none, some}
use lib.ListN.{length}
use lib.Dec.{eqb}
use Rattle.xliff.specs.Answer.{Refusal, refusal, applies, ◌then◌, refuse}
use Rattle.xliff.specs.Check.{table_refusal}
use Rattle.xliff.specs.Calls.{Call}
use Rattle.xliff.specs.Desk as desk
use Rattle.xliff.specs.Desk.{request}
use Rattle.requests.specs.declared.Request.{Request}
use Rattle.requests.specs.declared.Request.TheVariants.{Split, Join, SetTarget, RemoveTarget, Rewrite}
use Rattle.std.specs.Prelude.{Option as RustOption, Some, None}
use Rattle.requests.specs.Requests.{call_with, call_of, request_size, asked_meaning, SizeIn}
use Rattle.grants.specs.Grant.{Grant, granted, unless_refused, GrantedCall, granted_outcome}
use Rattle.grants.specs.Requests.{with_room, alone, read_outcome, granted_request}
use Rattle.granted_calls.specs.Called.{call_granted}

-- a call that is not granted
pub refused_24 : (t : List ℕ) (c : GrantedCall) → table_refusal t ≡ none → granted c.grant t c.call ≡ false
    → granted_outcome t c ≡ refuse (record { number = 24; place = 0 })
unfolding granted_outcome unless_refused ◌then◌ applies
refused_24 t c v e = rw (v, e)

-- the call of a request, on an output of another length
room_is : (room : ℕ) (s : List ℕ) (r : Request) → with_room room (call_of s r) ≡ call_with room s r
unfolding with_room
room_is room s (Split n source_cut target_cut new) = refl
room_is room s (Join n) = refl
room_is room s (SetTarget n st k) = refl
room_is room s (RemoveTarget n) = refl
room_is room s (Rewrite side i w) = refl

module _ (g : Grant) (t s : List ℕ) (room : ℕ) where
  -- the check refuses the table
  pub refused_table : (n at : ℕ) → table_refusal t ≡ refusal n at
      → granted_request g t s room ≡ refuse (record { number = n; place = at })
  unfolding granted_request unless_refused
  refused_table n at e =
      ap (λ (o : Option Refusal). unless_refused o (read_outcome g t room (alone s (request s)))) e

  -- it passes, and this was read
  module _ (v : table_refusal t ≡ none) (a : RustOption Request) (e : asked_meaning s a ≡ request s) where
    read_as : granted_request g t s room ≡ read_outcome g t room (alone s (asked_meaning s a))
    unfolding granted_request unless_refused
    read_as =
        ap₂ (λ (o : Option Refusal) (q : Option desk.Request). unless_refused o (read_outcome g t room (alone s q)))
        v (sym e)

    -- no request
    pub unreadable : a ≡ None → granted_request g t s room ≡ refuse (record { number = 2; place = 0 })
    unfolding alone read_outcome
    unreadable u = read_as ∙ ap (λ (x : RustOption Request). read_outcome g t room (alone s (asked_meaning s x))) u

    module _ (r : Request) (is : a ≡ Some r) where
      abbrev asked : desk.Request
      asked = record { call = call_of s r; size = request_size r }

      sized : granted_request g t s room
          ≡ read_outcome g t room (cond (eqb (request_size r) (length s)) (some asked) none)
      unfolding alone
      sized = read_as ∙ ap (λ (x : RustOption Request). read_outcome g t room (alone s (asked_meaning s x))) is

      -- bytes behind it
      pub not_alone : eqb (request_size r) (length s) ≡ false
          → granted_request g t s room ≡ refuse (record { number = 2; place = 0 })
      unfolding read_outcome
      not_alone n = sized ∙ ap (λ (b : Bool). read_outcome g t room (cond b (some asked) none)) n

      -- one request
      pub one_request : eqb (request_size r) (length s) ≡ true
          → granted_request g t s room ≡ call_granted g t s r room
      unfolding read_outcome
      one_request l =
          sized
          ∙ ap (λ (b : Bool). read_outcome g t room (cond b (some asked) none)) l
          ∙ ap (λ (c : Call). granted_outcome t (record { grant = g; call = c })) (room_is room s r)

-- the size of what was read
pub read_size : (s : List ℕ) (a : RustOption Request) (r : Request) → a ≡ Some r → SizeIn s a → request_size r ≤ length s
read_size s a r is h = (subst (SizeIn s) is h).1
