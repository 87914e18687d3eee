-- A result that is judged last: 15, then some rules; and what is answered.
use Prim.Native.Nat.{ℕ}
use mathlib.Core.Path.{◌≡◌, sym, ap, ◌∙◌}
use mathlib.Core.Bool.{true, false}
use mathlib.Core.List.{List, ◌++◌}
use mathlib.Core.Option.{Option}
use Rattle.std.specs.Prelude.{Some, None}
use lib.ListN.{length, take, drop}
use Rattle.xliff.specs.Answer.{Refusal, of_result, result, refuse, unless}
use Rattle.xliff.specs.Unit.{Part, XliffUnit}
use Rattle.xliff.specs.Encode.{encode}
use Rattle.xliff.specs.Parse.{unit}
use Rattle.xliff.specs.Check.{too_large}
use Rattle.outcomes.proofs.OutcomeLaws.{applied, passed, answers_refused}
use Rattle.answers.specs.declared.Answer.TheVariants.{Accepted, Refused}
use Rattle.outcomes.specs.Outcomes.{Answers}
use Rattle.result_rules.specs.Broken.{broken, judged}
use Rattle.result_rules.proofs.WorkLaws.{Work, work_rule, answers_work}

module _ (room : ℕ) (v : XliffUnit) (rules : Option Refusal) where
  judged_15 : too_large room v ≡ true → judged room v rules ≡ refuse (record { number = 15; place = 0 })
  unfolding judged
  judged_15 x = applied 15 (too_large room v) _ (encode v) x

  module _ (x : too_large room v ≡ false) where
    judged_rules : judged room v rules ≡ unless (of_result rules) (encode v)
    unfolding judged
    judged_rules = ap (λ (o : Option Refusal). unless o (encode v)) (passed 15 (too_large room v) (of_result rules) x)

    judged_by : (k : ℕ) → broken (Some k) ≡ of_result rules → judged room v rules ≡ refuse (record { number = k; place = 0 })
    unfolding unless
    judged_by k e = judged_rules ∙ ap (λ (o : Option Refusal). unless o (encode v)) (sym e)

    judged_done : broken None ≡ of_result rules → judged room v rules ≡ result (encode v)
    unfolding unless
    judged_done e = judged_rules ∙ ap (λ (o : Option Refusal). unless o (encode v)) (sym e)

-- the answers, where the result stands in a scratch array: k is the number of the first of the rules that it breaks, or
-- it breaks none
module _ (v : XliffUnit) (rule : List Part → Option Refusal) (out : List ℕ) where
  pub answers_15 : too_large (length out) v ≡ true → Answers (judged (length out) v (rule v.parts)) (Refused 15 0) out out
  answers_15 x = answers_refused _ 15 0 out (judged_15 (length out) v (rule v.parts) x)

  module _ (x : too_large (length out) v ≡ false) {n : ℕ} {l : List ℕ} (w : Work v n l) where
    pub answers_broken : (k : ℕ) → broken (Some k) ≡ of_result (rule (unit (take n l)).parts) → Answers (judged (length out) v (rule v.parts)) (Refused k 0) out out
    answers_broken k e =
        answers_refused _ k 0 out (judged_by (length out) v (rule v.parts) x k (e ∙ ap of_result (work_rule w rule)))

    pub answers_kept : broken None ≡ of_result (rule (unit (take n l)).parts) → (m : ℕ) (last : List ℕ) → m ≡ length (take n l)
        → last ≡ take n l ++ drop (length (take n l)) out → Answers (judged (length out) v (rule v.parts)) (Accepted m) out last
    answers_kept e m last long is =
        answers_work w _ (judged_done (length out) v (rule v.parts) x (e ∙ ap of_result (work_rule w rule))) m out last long is
