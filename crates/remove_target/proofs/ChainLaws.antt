-- The refusals of remove target, one after the other.
use Prim.Native.Nat.{ℕ}
use mathlib.Core.Path.{◌≡◌, refl, sym, ap, ◌∙◌}
use mathlib.Core.Bool.{true, false, not}
use mathlib.Core.List.{List}
use mathlib.Core.Option.{Option, none}
use Rattle.std.specs.Prelude.{Option as RustOption, is_some}
use Rattle.xliff.specs.Answer.{Refusal, applies, ◌then◌, of_result, refuse, unless}
use Rattle.xliff.specs.Unit.{Target, no_target, target, Part, XliffUnit}
use Rattle.xliff.specs.Encode.{encode}
use Rattle.xliff.specs.Parse.{unit}
use Rattle.xliff.specs.Rules.{fault_7, fault_9}
use Rattle.xliff.specs.Check.{table_refusal, too_large}
use Rattle.xliff.specs.Focus.{Focus, nowhere, here, focus}
use Rattle.xliff.specs.RemoveTarget.{remove_unit, lacks_target, remove_refusal, remove_target}
use Rattle.outcomes.proofs.OutcomeLaws.{on_passed, applied, passed}
use Rattle.part_at.specs.declared.PartPlace.{PartPlace}
use Rattle.part_at.specs.Stands.{TargetStands}
use Rattle.result_rules.specs.Broken.{judged}
use Rattle.removed_target.specs.Removed.{removed_unit}
use Rattle.removed_target.proofs.RemovedLaws.{remove_unit_is}
use Rattle.remove_target.specs.Ending.{removal_ending}

-- a part's place tells whether it has a target
pub lacks_is : (t : List ℕ) (place : PartPlace) (g : Target) → TargetStands t place g → lacks_target g ≡ not (is_some place.order)
unfolding lacks_target
lacks_is t place no_target s = ap (λ (o : RustOption ℕ). not (is_some o)) (sym s.0)
lacks_is t place (target q xs) s = ap (λ (o : RustOption ℕ). not (is_some o)) (sym s.0)

module _ (t : List ℕ) (n room : ℕ) (e : table_refusal t ≡ none) where
  abbrev v : XliffUnit
  v = remove_unit (unit t) n

  abbrev rest : Option Refusal
  rest = applies 15 (too_large room v) then of_result (fault_7 v.parts then fault_9 v.parts)

  on_focus : (f : Focus) → focus (unit t).parts n ≡ f → remove_target t n room ≡ unless (remove_refusal f then rest) (encode v)
  unfolding remove_target
  on_focus f h =
      on_passed t (remove_refusal (focus (unit t).parts n) then rest) v e
      ∙ ap (λ (g : Focus). unless (remove_refusal g then rest) (encode v)) h

  pub no_part : focus (unit t).parts n ≡ nowhere → remove_target t n room ≡ refuse (record { number = 11; place = 0 })
  unfolding remove_refusal
  no_part h = on_focus nowhere h ∙ applied 11 true rest (encode v) refl

  module _ (b : List Part) (p : Part) (a : List Part) (h : focus (unit t).parts n ≡ here b p a) where
    pub refused_20 : lacks_target p.target ≡ true → remove_target t n room ≡ refuse (record { number = 20; place = 0 })
    unfolding remove_refusal
    refused_20 x = on_focus (here b p a) h ∙ applied 20 (lacks_target p.target) rest (encode v) x

    pub ends : lacks_target p.target ≡ false → remove_target t n room ≡ removal_ending room (removed_unit (unit t) b p a)
    unfolding remove_refusal judged
    ends x =
        on_focus (here b p a) h
        ∙ ap (λ (o : Option Refusal). unless o (encode v)) (passed 20 (lacks_target p.target) rest x)
        ∙ ap (removal_ending room) (remove_unit_is (unit t) n b p a h)
