-- The state of a join: the earliest by cases (specs/State) is the one that the rank gave before order 3.
use Prim.Native.Nat.{ℕ}
use mathlib.Core.Path.{◌≡◌, refl, ap, ap₂, ◌∙◌, subst}
use mathlib.Core.Bool.{true, cond}
use mathlib.Core.List.{List, ◌∷◌, ◌++◌}
use lib.Dec.{eqb, leb}
use Rattle.xliff.specs.Bytes.{'F', 'I', 'R', 'T', Bytes, among}
use Rattle.xliff.specs.State.{State, initial, translated, reviewed, final, state_letters, state_letter, state_of, earliest}
use Rattle.xliff.specs.Unit.{Segment, segment, Part}
use Rattle.xliff.specs.Parse.{unit}
use Rattle.xliff.specs.Check.{Valid}
use Rattle.xliff.specs.Join.{join_states}
use Rattle.xliff.specs.Good.{each_nil, each_cons, GoodHead, GoodParts}
use Rattle.xliff.proofs.lists.Each.{each_apart, each_among}
use Rattle.xliff.proofs.unit.Result.{sent}

-- STATES AND LETTERS. A letter of the four is that of its state
letter_back : (s : ℕ) → among s state_letters ≡ true → state_letter (state_of s) ≡ s
unfolding state_of state_letter
letter_back s good =
    each_among (λ x. state_letter (state_of x) ≡ x) state_letters
    (each_cons {x = 'I'} refl (each_cons {x = 'T'} refl (each_cons {x = 'R'} refl (each_cons {x = 'F'} refl each_nil))))
    s good

-- the letter of a joined segment is one of the four
pub join_states_good : (s t : ℕ) → among (join_states s t) state_letters ≡ true
unfolding join_states among state_letter
join_states_good s t = by (earliest (state_of s) (state_of t))
  where
    by : (x : State) → among (state_letter x) state_letters ≡ true
    by initial = refl
    by translated = refl
    by reviewed = refl
    by final = refl

-- a state joined with itself
pub same_state : (s : ℕ) → among s state_letters ≡ true → join_states s s ≡ s
unfolding join_states earliest
same_state s good = ap state_letter (by (state_of s)) ∙ letter_back s good
  where
    by : (x : State) → earliest x x ≡ x
    by initial = refl
    by translated = refl
    by reviewed = refl
    by final = refl

-- THE RANK. What stood in the place of the sixteen cases until order 3
unfoldable pub rank : ℕ → ℕ
rank s = cond (eqb s 'I') 0 (cond (eqb s 'T') 1 (cond (eqb s 'R') 2 3))

unfoldable pub earliest_by_rank : ℕ → ℕ → ℕ
earliest_by_rank s t = cond (leb (rank s) (rank t)) s t

-- each of the sixteen cases is what the rank says
case_by_rank : (x y : State) → state_letter (earliest x y) ≡ earliest_by_rank (state_letter x) (state_letter y)
unfolding earliest state_letter earliest_by_rank rank
case_by_rank initial initial = refl
case_by_rank initial translated = refl
case_by_rank initial reviewed = refl
case_by_rank initial final = refl
case_by_rank translated initial = refl
case_by_rank translated translated = refl
case_by_rank translated reviewed = refl
case_by_rank translated final = refl
case_by_rank reviewed initial = refl
case_by_rank reviewed translated = refl
case_by_rank reviewed reviewed = refl
case_by_rank reviewed final = refl
case_by_rank final initial = refl
case_by_rank final translated = refl
case_by_rank final reviewed = refl
case_by_rank final final = refl

pub states_by_rank : (s t : ℕ) → among s state_letters ≡ true → among t state_letters ≡ true
    → join_states s t ≡ earliest_by_rank s t
unfolding join_states
states_by_rank s t good good' =
    case_by_rank (state_of s) (state_of t) ∙ ap₂ earliest_by_rank (letter_back s good) (letter_back t good')

-- Every result is the same: two neighbouring segments of a valid table are joined to the state that the rank gave
pub join_by_rank : (t : List ℕ) → Bytes t → Valid t
    → (before : List Part) (p q : Part) (after : List Part) → (unit t).parts ≡ before ++ (p ∷ q ∷ after)
    → (f g : Segment) → p.head ≡ segment f → q.head ≡ segment g
    → join_states f.state g.state ≡ earliest_by_rank f.state g.state
join_by_rank t bytes valid before p q after stands f g is_f is_g =
    let all_good : GoodParts (before ++ (p ∷ q ∷ after)) = subst GoodParts stands (sent t bytes valid).good in
    let (good_before, good_p, good_rest) = each_apart before p (q ∷ after) all_good in
    let good_f : GoodHead (segment f) = subst GoodHead is_f good_p.head in
    let good_g : GoodHead (segment g) = subst GoodHead is_g (head_good good_rest) in
    states_by_rank f.state g.state good_f.1 good_g.1
  where
    head_good : GoodParts (q ∷ after) → GoodHead q.head
    head_good (each_cons good_q good_after) = good_q.head
