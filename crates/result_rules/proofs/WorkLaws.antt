-- A result as it stands at the head of a scratch array.
use Prim.Native.Nat.{ℕ, ◌<◌, ◌≤◌}
use mathlib.Core.Path.{◌≡◌, sym, ap, ◌∙◌, subst}
use mathlib.Core.Bool.{true, false}
use mathlib.Core.List.{List, ◌++◌}
use mathlib.Core.Option.{Option}
use native.Mathlib.Omega.{arith}
use lib.ListN.{length, take, drop, length-append}
use lib.Seq.{take_at}
use borrow.Author.Tests.{lt-ltb, le-ltb}
use Rattle.xliff.specs.Answer.{Refusal, Outcome, result}
use Rattle.xliff.specs.Unit.{Part, XliffUnit}
use Rattle.xliff.specs.Encode.{encode}
use Rattle.xliff.specs.Parse.{unit, most_bytes}
use Rattle.xliff.specs.Check.{too_large}
use Rattle.places.specs.Passes.{Passes}
use Rattle.answers.specs.declared.Answer.TheVariants.{Accepted}
use Rattle.outcomes.specs.Outcomes.{Answers}
use Rattle.outcomes.proofs.OutcomeLaws.{answers_result}
use Rattle.result_rules.proofs.GoodLaws.{GoodUnit, read_back, result_passes, only_room}

-- the first n bytes of l are those of the unit u
pub record Work (u : XliffUnit) (n : ℕ) (l : List ℕ) : Type 0 where
  pub good : GoodUnit u
  pub long : n ≡ length (encode u)
  pub within : n ≤ length l
  pub is : take n l ≡ encode u

-- written at the head of o
pub work_written : (u : XliffUnit) (o l : List ℕ) (n : ℕ) → GoodUnit u → (n ≡ length (encode u)) × (l ≡ encode u ++ drop (length (encode u)) o) → Work u n l
work_written u o l n g (long, is) =
    record {
      good = g;
      long = long;
      within = omega (arith, long, ap length is, length-append (encode u) (drop (length (encode u)) o));
      is = ap (take n) is ∙ take_at (encode u) (drop (length (encode u)) o) n (sym long);
    }

module _ {u : XliffUnit} {n : ℕ} {l : List ℕ} (w : Work u n l) where
  pub work_long : n ≡ length (take n l)
  work_long = w.long ∙ sym (ap length w.is)

  pub work_passes : Passes (take n l) × (length (take n l) ≤ most_bytes)
  work_passes = (subst Passes (sym w.is) (result_passes u w.good), omega (arith, ap length w.is, w.good.size))

  -- a rule of its parts is that of the unit
  pub work_rule : (rule : List Part → Option Refusal) → rule (unit (take n l)).parts ≡ rule u.parts
  work_rule rule =
      ap (λ (c : List ℕ). rule (unit c).parts) w.is ∙ ap (λ (c : XliffUnit). rule c.parts) (read_back u w.good)

  pub no_room : (room : ℕ) → room < n → too_large room u ≡ true
  no_room room z = only_room u w.good room ∙ lt-ltb room (length (encode u)) (omega (arith, w.long))

  pub has_room : (room : ℕ) → n ≤ room → too_large room u ≡ false
  has_room room z = only_room u w.good room ∙ le-ltb room (length (encode u)) (omega (arith, w.long))

  -- copied into the output, it is the answer
  pub answers_work : (o : Outcome) → o ≡ result (encode u) → (m : ℕ) (out last : List ℕ)
      → m ≡ length (take n l) → last ≡ take n l ++ drop (length (take n l)) out → Answers o (Accepted m) out last
  answers_work o e m out last long is =
      answers_result o (encode u) m out last e (long ∙ ap length w.is)
      (is ∙ ap (λ (c : List ℕ). c ++ drop (length c) out) w.is)
