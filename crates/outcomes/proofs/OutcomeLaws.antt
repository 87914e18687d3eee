-- From the check's answer to an operation's: the numbers that apply, one after the other.
use Prim.Native.Nat.{ℕ, ◌≤◌}
use mathlib.Core.Path.{◌≡◌, refl, sym, ap, ap₂}
use mathlib.Core.Bool.{Bool, true, false}
use mathlib.Core.List.{List, ◌++◌}
use mathlib.Core.Option.{Option, none, some}
use native.Mathlib.Omega.{arith}
use lib.ListN.{length, drop}
use lib.Dec.{ltb}
use borrow.Author.Tests.{ltb-false}
use Rattle.xliff.specs.Answer as spec
use Rattle.xliff.specs.Answer.{Refusal, refusal, applies, ◌then◌, Outcome, result, refuse, unless, answer, output}
use Rattle.xliff.proofs.lists.Tests.{or_left}
use Rattle.xliff.specs.Unit.{XliffUnit}
use Rattle.xliff.specs.Encode.{encode}
use Rattle.xliff.specs.Check.{table_refusal, check, too_large, operation}
use Rattle.answers.specs.Answers.{answer_meaning}
use Rattle.answers.specs.declared.Answer.{Answer}
use Rattle.answers.specs.declared.Answer.TheVariants.{Accepted, Refused}
use Rattle.outcomes.specs.Outcomes.{Answers}

clash : {A : Type 0} {n m k : ℕ} → spec.accepted n ≡ spec.refused m k → A
clash e = absurd (let z : ◌≡◌ {A = ℕ} 0 1 = cc in omega arith)

number_of : {a b c d : ℕ} → spec.refused a b ≡ spec.refused c d → a ≡ c
number_of e = cc

place_of : {a b c d : ℕ} → spec.refused a b ≡ spec.refused c d → b ≡ d
place_of e = cc

-- an answer that is unless a fault applies: there is none, or it is that one
pub accepted_without : (o : Option Refusal) (s : List ℕ) (n : ℕ) → spec.accepted n ≡ answer (unless o s) → o ≡ none
unfolding unless answer
accepted_without none s n h = refl
accepted_without (some r) s n h = clash h

pub refused_with : (o : Option Refusal) (s : List ℕ) (n at : ℕ) → spec.refused n at ≡ answer (unless o s) → o ≡ refusal n at
unfolding unless answer
refused_with none s n at h = clash (sym h)
refused_with (some r) s n at h = ap₂ (λ (a b : ℕ). refusal a b) (sym (number_of h)) (sym (place_of h))

-- the check's answer is the table's refusal, or there is none
pub accepted_none : (t : List ℕ) (n : ℕ) → spec.accepted n ≡ check t → table_refusal t ≡ none
unfolding check
accepted_none t n h = accepted_without (table_refusal t) t n h

pub refused_some : (t : List ℕ) (n at : ℕ) → spec.refused n at ≡ check t → table_refusal t ≡ refusal n at
unfolding check
refused_some t n at h = refused_with (table_refusal t) t n at h

-- an operation on a refused table, and on one that passes
pub on_refused : (t : List ℕ) (n at : ℕ) (own : Option Refusal) (u : XliffUnit) → table_refusal t ≡ refusal n at → operation t own u ≡ refuse (record { number = n; place = at })
unfolding operation ◌then◌ unless
on_refused t n at own u e = ap (λ (o : Option Refusal). unless (o then own) (encode u)) e

pub on_passed : (t : List ℕ) (own : Option Refusal) (u : XliffUnit) → table_refusal t ≡ none → operation t own u ≡ unless own (encode u)
unfolding operation ◌then◌
on_passed t own u e = ap (λ (o : Option Refusal). unless (o then own) (encode u)) e

-- the chain of numbers with place 0: the first that applies
pub applied : (n : ℕ) (b : Bool) (rest : Option Refusal) (s : List ℕ) → b ≡ true → unless (applies n b then rest) s ≡ refuse (record { number = n; place = 0 })
unfolding applies ◌then◌ unless
applied n b rest s e = rw e refl

pub passed : (n : ℕ) (b : Bool) (rest : Option Refusal) → b ≡ false → (applies n b then rest) ≡ rest
unfolding applies ◌then◌
passed n b rest e = rw e refl

pub then_assoc : (a b c : Option Refusal) → ((a then b) then c) ≡ (a then (b then c))
unfolding ◌then◌
then_assoc none b c = refl
then_assoc (some r) b c = refl

-- what a refusal and a result come to
pub answers_refused : (o : Outcome) (n at : ℕ) (out : List ℕ) → o ≡ refuse (record { number = n; place = at }) → (spec.refused n at ≡ answer o) × (out ≡ output o out)
unfolding answer output
answers_refused o n at out e = rw e (refl, refl)

pub answers_result : (o : Outcome) (s : List ℕ) (m : ℕ) (out last : List ℕ) → o ≡ result s → m ≡ length s → last ≡ s ++ drop (length s) out
    → (spec.accepted m ≡ answer o) × (last ≡ output o out)
unfolding answer output
answers_result o s m out last e l k = rw e (ap spec.accepted l, k)

-- a result that is not too large fits into the room
pub fits : (room : ℕ) (u : XliffUnit) → too_large room u ≡ false → length (encode u) ≤ room
unfolding too_large
fits room u h = ltb-false room (length (encode u)) (or_left (ltb room (length (encode u))) _ h)

-- let Answer::Accepted(_) = checked else { return checked; }: what the check refuses stays refused
pub checked_none : (t : List ℕ) (r : Answer) (n : ℕ) → answer_meaning r ≡ check t → r ≡ Accepted n → table_refusal t ≡ none
checked_none t r n h e = accepted_none t n (rw e at h)

pub answers_unchecked : (t : List ℕ) (r : Answer) (n at : ℕ) (own : Option Refusal) (u : XliffUnit) (out : List ℕ)
    → answer_meaning r ≡ check t → r ≡ Refused n at → Answers (operation t own u) r out out
answers_unchecked t r n at own u out h e =
    rw e (answers_refused (operation t own u) n at out (on_refused t n at own u (refused_some t n at (rw e at h))))
