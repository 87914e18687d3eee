-- A call with its grant: where it is granted, its own outcome; where not, a refusal.
use Prim.Native.Nat.{ℕ}
use mathlib.Core.Path.{◌≡◌, refl, sym, ap, ◌∙◌}
use mathlib.Core.Bool.{Bool, true, false, not}
use mathlib.Core.List.{List}
use mathlib.Core.Option.{Option, none, some}
use Rattle.xliff.specs.Answer.{Refusal, applies, ◌then◌, Outcome, refuse, unless}
use Rattle.xliff.specs.Unit.{XliffUnit}
use Rattle.xliff.specs.Encode.{encode}
use Rattle.xliff.specs.Check.{table_refusal, operation}
use Rattle.xliff.specs.Split.{split}
use Rattle.xliff.specs.Join.{join}
use Rattle.xliff.specs.SetTarget.{set_target}
use Rattle.xliff.specs.RemoveTarget.{remove_target}
use Rattle.xliff.specs.Rewrite.{rewrite}
use Rattle.xliff.specs.Calls.{Call, SP, JN, ST, RT, RW, outcome}
use Rattle.grants.specs.Grant.{GrantedCall, granted, unless_refused, granted_outcome}

-- every call on a refused table is refused
on_refused : (t : List ℕ) (r : Refusal) (own : Option Refusal) (u : XliffUnit) → table_refusal t ≡ some r
    → operation t own u ≡ refuse r
unfolding operation ◌then◌ unless
on_refused t r own u e = ap (λ (o : Option Refusal). unless (o then own) (encode u)) e

outcome_refused : (t : List ℕ) (c : Call) (r : Refusal) → table_refusal t ≡ some r → outcome t c ≡ refuse r
unfolding outcome split join set_target remove_target rewrite
outcome_refused t (SP n source_cut target_cut new room) r e = on_refused t r _ _ e
outcome_refused t (JN n room) r e = on_refused t r _ _ e
outcome_refused t (ST n st s room) r e = on_refused t r _ _ e
outcome_refused t (RT n room) r e = on_refused t r _ _ e
outcome_refused t (RW side i w room) r e = on_refused t r _ _ e

module _ (t : List ℕ) (c : GrantedCall) where
  abbrev own : Outcome
  own = outcome t c.call

  -- a granted call comes to its own outcome
  pub granted_own : granted c.grant t c.call ≡ true → granted_outcome t c ≡ own
  unfolding granted_outcome unless_refused applies ◌then◌
  granted_own e =
      ap (λ (b : Bool). unless_refused (table_refusal t then applies 24 (not b)) own) e ∙ by (table_refusal t) refl
    where
      by : (o : Option Refusal) → table_refusal t ≡ o → unless_refused (o then applies 24 false) own ≡ own
      by none k = refl
      by (some r) k = sym (outcome_refused t c.call r k)

  -- an ungranted one is refused
  pub ungranted_refused : granted c.grant t c.call ≡ false → (r : Refusal) × (granted_outcome t c ≡ refuse r)
  unfolding granted_outcome unless_refused applies ◌then◌
  ungranted_refused e = by (table_refusal t) refl
    where
      by : (o : Option Refusal) → table_refusal t ≡ o → (r : Refusal) × (granted_outcome t c ≡ refuse r)
      by none k = (record { number = 24; place = 0 }, rw (k, e) refl)
      by (some r) k = (r, rw k refl)
