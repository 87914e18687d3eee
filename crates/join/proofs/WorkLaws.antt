-- The joined unit as it stands at the head of the scratch array, and what is answered.
use Prim.Native.Nat.{ℕ, ◌<◌, ◌≤◌}
use mathlib.Core.Path.{◌≡◌, sym, ap, ◌∙◌}
use mathlib.Core.Bool.{Bool, true, false}
use mathlib.Core.List.{List, ◌++◌}
use mathlib.Core.Option.{none}
use lib.ListN.{length, get_or, take, drop}
use mir.Val.{Fits}
use mir.Syntax.{w8}
use Rattle.xliff.specs.Answer.{is_fault}
use Rattle.xliff.specs.Unit.{Part, XliffUnit}
use Rattle.xliff.specs.Parse.{unit}
use Rattle.xliff.specs.Rules.{fault_7}
use Rattle.xliff.specs.Check.{table_refusal}
use Rattle.answers.specs.declared.Answer.TheVariants.{Accepted, Refused}
use Rattle.outcomes.specs.Outcomes.{Answers}
use Rattle.outcomes.proofs.OutcomeLaws.{answers_refused}
use Rattle.part_at.specs.declared.PartPlace.{PartPlace}
use Rattle.result_rules.proofs.WorkLaws.{Work, work_written, work_rule, no_room, has_room, answers_work}
use Rattle.join_result.specs.Result.{Beside, joined_unit, WroteJoined}
use Rattle.join.specs.Pair.{join_ending}
use Rattle.join.proofs.GoodLaws.{joined_good}
use Rattle.join.proofs.ChainLaws.{refused_17, refused_15, done}

pub joined_work : (t : List ℕ) → ((i : ℕ) → Fits w8 (get_or t i 0)) → table_refusal t ≡ none → (x y : PartPlace) (b : List Part) (p q : Part) (a : List Part)
    → Beside t x y b p q a → (o l : List ℕ) (n : ℕ) → WroteJoined t x y o n l → Work (joined_unit (unit t) b p q a) n l
joined_work t h v x y b p q a s o l n w =
    work_written (joined_unit (unit t) b p q a) o l n (joined_good t h v b p q a s.first.all) (w b p q a s)

-- breaks: the result breaks rule 7
module _ {v : XliffUnit} {n : ℕ} {l : List ℕ} (w : Work v n l) (out : List ℕ) (breaks : Bool) (e : breaks ≡ is_fault (fault_7 (unit (take n l)).parts)) where
  seven_is : (x : Bool) → breaks ≡ x → is_fault (fault_7 v.parts) ≡ x
  seven_is x f = sym (ap is_fault (work_rule w fault_7)) ∙ sym e ∙ f

  pub answers_17 : breaks ≡ true → Answers (join_ending (length out) v) (Refused 17 0) out out
  answers_17 f = answers_refused _ 17 0 out (refused_17 (length out) v (seven_is true f))

  module _ (f : breaks ≡ false) where
    pub answers_15 : length out < n → Answers (join_ending (length out) v) (Refused 15 0) out out
    answers_15 k = answers_refused _ 15 0 out (refused_15 (length out) v (seven_is false f) (no_room w (length out) k))

    pub answers_joined : n ≤ length out → (m : ℕ) (last : List ℕ) → m ≡ length (take n l) → last ≡ take n l ++ drop (length (take n l)) out
        → Answers (join_ending (length out) v) (Accepted m) out last
    answers_joined k m last long is =
        answers_work w _ (done (length out) v (seven_is false f) (has_room w (length out) k)) m out last long is
