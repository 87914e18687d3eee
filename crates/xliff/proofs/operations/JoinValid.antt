-- An accepted join leaves a valid table.
use Prim.Native.Nat.{ℕ}
use mathlib.Core.Path.{◌≡◌, refl, sym, ap, ◌∙◌, subst}
use mathlib.Core.Bool.{Bool, true, false, ◌&&◌, ◌||◌, true≢false}
use mathlib.Core.List.{List, [], ◌∷◌, ◌++◌, map}
use mathlib.Core.Option.{Option, none, some}
use lib.Dec.{eqb}
use Rattle.xliff.specs.Bytes.{'-', 'N', 'Y', Bytes, among}
use Rattle.xliff.specs.Answer.{Refusal, applies, is_fault, result}
use Rattle.xliff.specs.Unit.{Head, segment, ignorable, Target, no_target, target, Part, XliffUnit, is_closed, source_sequence}
use Rattle.xliff.specs.Parse.{unit}
use Rattle.xliff.specs.Rules.{fault_5, fault_6, fault_7, fault_8, fault_9, fault_6_to_10}
use Rattle.xliff.specs.Check.{Valid, too_large}
use Rattle.xliff.specs.Focus.{Focus, nowhere, here, focus, order_target, order_part, order_parts, with_parts}
use Rattle.xliff.specs.Join.{dash, join_heads, join_targets, join_parts, join_order, join_focus, join_unit, bad_orders, join_refusal, join}
use Rattle.xliff.specs.Good.{each_nil, each_cons, GoodHead, GoodTarget, GoodPart, GoodParts}
use Rattle.xliff.proofs.lists.Each.{each_append, each_apart}
use Rattle.xliff.proofs.operations.Sources.{focus_here, join_source}
use Rattle.xliff.proofs.unit.Result.{then_left, then_right, then_none, applies_none, operation_result, Sent, sent}
use Rattle.xliff.proofs.unit.Accepted.{Accepted, accepted_valid}
use Rattle.xliff.proofs.operations.SetValid.{some_part}
use Rattle.xliff.proofs.operations.JoinTarget.{join_target}
use Rattle.xliff.proofs.operations.JoinStates.{join_states_good}
use Rattle.xliff.proofs.operations.JoinRules.{join_6, join_8, join_9, join_10}
use Rattle.xliff.proofs.operations.JoinOrders.{join_5}

-- the head of the result is good
dash_good : (b : Bool) → among (dash b) ('Y' ∷ 'N' ∷ '-' ∷ []) ≡ true
unfolding dash among
dash_good true = refl
dash_good false = refl

head_good : (g h : Head) → GoodHead g → GoodHead h → GoodHead (join_heads g h)
unfolding join_heads
head_good (ignorable i) (ignorable k) a b = tt
head_good (ignorable i) (segment g) a b = (dash_good (eqb g.can_resegment '-'), b.1)
head_good (segment f) (ignorable k) a b = (dash_good (eqb f.can_resegment '-'), a.1)
head_good (segment f) (segment g) a b =
    (dash_good (eqb f.can_resegment '-' && eqb g.can_resegment '-'), join_states_good f.state g.state)

target_good : (g h : Target) → GoodTarget g → GoodTarget h → GoodTarget (join_targets g h)
unfolding join_targets
target_good no_target no_target a b = tt
target_good no_target (target r ys) a b = b
target_good (target q xs) no_target a b = a
target_good (target q xs) (target r ys) a b = each_append xs ys a b

pub part_good : (p q : Part) → GoodPart p → GoodPart q → GoodPart (join_parts p q)
unfolding join_parts
part_good p q a b =
    record {
      head = head_good p.head q.head a.head b.head;
      source = each_append p.source q.source a.source b.source;
      target = target_good p.target q.target a.target b.target;
    }

pub orders_good : (f : ℕ → ℕ) (ps : List Part) → GoodParts ps → GoodParts (order_parts f ps)
unfolding order_parts order_part order_target
orders_good f [] each_nil = each_nil
orders_good f (p ∷ ps) (each_cons g h) =
    each_cons (record { head = g.head; source = g.source; target = by p.target g.target }) (orders_good f ps h)
  where
    by : (t : Target) → GoodTarget t → GoodTarget (order_target f t)
    by no_target k = tt
    by (target q xs) k = k

nonempty : (f : ℕ → ℕ) (ps : List Part) (x : Part) (xs : List Part) → ps ≡ x ∷ xs
    → (y : Part) × (ys : List Part) × (order_parts f ps ≡ y ∷ ys)
unfolding order_parts
nonempty f ps x xs e = (order_part f x, map (order_part f) xs, ap (map (order_part f)) e)

no_fault : (o : Option Refusal) → is_fault o ≡ false → o ≡ none
unfolding is_fault
no_fault none e = refl
no_fault (some r) e = absurd (true≢false e)

-- An accepted join
pub join_accepted : (t : List ℕ) (n room : ℕ) (r : List ℕ) → Bytes t → join t n room ≡ result r
    → Accepted t (join_unit (unit t) n) r
unfolding join join_unit with_parts join_focus join_refusal fault_6_to_10 Valid
join_accepted t n room r bt e =
    let (valid, own, same) = operation_result t _ _ r e in
    let refusal : Option Refusal = join_refusal (unit t) n (focus (unit t).parts n) in
    let first = then_left refusal _ own in
    let small = applies_none 15 (too_large room (join_unit (unit t) n)) (then_right refusal _ own) in
    let h = sent t bt valid in
    record { was = h; now = by (focus (unit t).parts n) refl first h; bytes = same; room = room; fits = small }
  where
    u : XliffUnit
    u = unit t

    v : Focus → XliffUnit
    v f = with_parts u (join_focus u.parts f)

    whole : (b : List Part) (p q : Part) (a : List Part) → u.parts ≡ b ++ (p ∷ q ∷ a)
        → focus u.parts n ≡ here b p (q ∷ a) → bad_orders p.target q.target ≡ false
        → fault_7 (join_focus u.parts (here b p (q ∷ a))) ≡ none → Sent u → Sent (v (here b p (q ∷ a)))
    whole b p q a at k bo seven h =
        let ps : List Part = u.parts in
        let qs : List Part = join_focus u.parts (here b p (q ∷ a)) in
        let same_source : Focus → Type 0 = λ f. source_sequence (join_focus u.parts f) ≡ source_sequence u.parts in
        let source_same = subst same_source k (join_source u.parts n) in
        let target_same = join_target u.parts b p q a at h.rule_5 bo in
        let r7 = then_right (fault_6 u.parts) _ h.rules in
        let r8 = then_right (fault_7 u.parts) _ r7 in
        let r9 = then_right (fault_8 u.parts) _ r8 in
        let (gb, gp, gr) = each_apart b p (q ∷ a) (subst GoodParts at h.good) in
        let (x, xs, shown) = some_part b (join_parts p q) a in
        let order : ℕ → ℕ = join_order u.parts p.target q.target in
        let (y, ys, listed) = nonempty order (b ++ (join_parts p q ∷ a)) x xs shown in
        record {
          letter = h.letter;
          first = y;
          others = ys;
          parts = listed;
          good = orders_good order (b ++ (join_parts p q ∷ a))
              (each_append b (join_parts p q ∷ a) gb (joined p q a gp gr));
          rule_5 = subst (λ (l : List Part). fault_5 (join_focus l (here b p (q ∷ a))) ≡ none) (sym at)
              (join_5 b p q a (ap fault_5 (sym at) ∙ h.rule_5) bo);
          rules = then_none _ _ (join_6 u.parts b p q a at (then_left _ _ h.rules))
              (then_none _ _ seven (then_none _ _ (join_8 u.parts qs source_same target_same (then_left _ _ r8))
              (then_none _ _ (join_9 u.parts qs source_same target_same (then_left _ _ r9))
              (join_10 u.parts qs source_same target_same (then_right (fault_9 u.parts) _ r9)))));
        }
      where
        joined : (p q : Part) (a : List Part) → GoodPart p → GoodParts (q ∷ a) → GoodParts (join_parts p q ∷ a)
        joined p q a g (each_cons k h) = each_cons (part_good p q g k) h

    by : (f : Focus) → focus u.parts n ≡ f → join_refusal u n f ≡ none → Sent u → Sent (v f)
    by nowhere k o h = absurd (true≢false (applies_none 11 true o))
    by (here b p []) k o h = absurd (true≢false (applies_none 11 true o))
    by (here b p (q ∷ a)) k o h =
        let at : u.parts ≡ b ++ (p ∷ q ∷ a) = focus_here u.parts n b p (q ∷ a) k in
        let letter = u.opening.can_resegment in
        let orders = bad_orders p.target q.target in
        let faults = fault_7 (join_focus u.parts (focus u.parts n)) in
        let o2 = then_right (applies 12 (is_closed letter p || is_closed letter q)) _ o in
        let bo : orders ≡ false = applies_none 16 orders (then_left _ _ o2) in
        let seven : faults ≡ none = no_fault _ (applies_none 17 (is_fault faults) (then_right (applies 16 orders) _ o2)) in
        whole b p q a at k bo (subst (λ (f : Focus). fault_7 (join_focus u.parts f) ≡ none) k seven) h

-- An accepted join leaves a valid table
pub join_valid : (t : List ℕ) (n room : ℕ) (r : List ℕ) → Bytes t → join t n room ≡ result r → Valid r
join_valid t n room r bt e = accepted_valid t (join_unit (unit t) n) r (join_accepted t n room r bt e)
