-- A join of two parts that both have a target, or both have none, keeps rule 7: the refusal 17 is met only where
-- exactly one of them has a target.
use mathlib.Core.Path.{◌≡◌, refl, sym, ap, ◌∙◌, subst}
use mathlib.Core.Bool.{false, cond, true≢false, false≢true}
use mathlib.Core.List.{List, [], ◌∷◌, ◌++◌, append_assoc}
use mathlib.Core.Option.{none}
use Rattle.xliff.specs.Bytes.{gather}
use Rattle.xliff.specs.Item.{Content}
use Rattle.xliff.specs.Unit.{Target, no_target, target, Part, has_target, target_items, target_sequence}
use Rattle.xliff.specs.Rules.{fault_5, fault_7}
use Rattle.xliff.specs.Focus.{here}
use Rattle.xliff.specs.Join.{join_targets, join_parts, join_order, join_focus, bad_orders}
use Rattle.xliff.proofs.lists.Tests.{map-append}
use Rattle.xliff.specs.Good.{each_cons}
use Rattle.xliff.proofs.lists.Each.{each_append, each_apart}
use Rattle.xliff.proofs.operations.Sources.{join_source_here}
use Rattle.xliff.proofs.operations.JoinTarget.{join_target}
use Rattle.xliff.proofs.operations.JoinRules.{items_join}
use Rattle.xliff.proofs.rules.Stack.{PM, Bal, Run-append}
use Rattle.xliff.proofs.rules.Balance.{pm, Balanced}
use Rattle.xliff.proofs.rules.Marks.{marks, Shape, waits}
use Rattle.xliff.proofs.rules.Seven.{bare, bare_sequence, AllBalanced, Good7, good_rule_7}
use Rattle.xliff.proofs.operations.Cut.{bare_append, bare_orders, balanced_orders}

-- balanced contents joined are balanced
both_balanced : (xs ys : Content) → Balanced xs → Balanced ys → Balanced (xs ++ ys)
both_balanced xs ys a b = subst (λ (l : List PM). Bal l) (sym (map-append pm xs ys)) (Run-append a b)

joined_goals : (g h : Target) (xs ys : Content) → has_target g ≡ has_target h
    → cond (has_target (join_targets g h)) [] (xs ++ ys) ≡ cond (has_target g) [] xs ++ cond (has_target h) [] ys
unfolding has_target join_targets
joined_goals no_target no_target xs ys e = refl
joined_goals no_target (target r zs) xs ys e = absurd (false≢true e)
joined_goals (target q zs) no_target xs ys e = absurd (true≢false e)
joined_goals (target q zs) (target r vs) xs ys e = refl

-- what waits in the two parts waits in the joined one
bare_joined : (p q : Part) → has_target p.target ≡ has_target q.target → bare (join_parts p q) ≡ bare p ++ bare q
unfolding bare join_parts
bare_joined p q e = joined_goals p.target q.target p.source q.source e

module _ (ps b : List Part) (p q : Part) (a : List Part) (at : ps ≡ b ++ (p ∷ q ∷ a)) (five : fault_5 ps ≡ none) (fit : bad_orders p.target q.target ≡ false)
    (same : has_target p.target ≡ has_target q.target) (g : Good7 ps) where
  abbrev now : List Part
  now = join_focus ps (here b p (q ∷ a))

  bare_same : bare_sequence now ≡ bare_sequence ps
  unfolding join_focus bare_sequence gather
  bare_same =
      bare_orders (join_order ps p.target q.target) (b ++ (join_parts p q ∷ a)) ∙ bare_append b (join_parts p q ∷ a)
      ∙ ap (λ (l : Content). bare_sequence b ++ l) (ap (λ (l : Content). l ++ bare_sequence a) (bare_joined p q same) ∙ append_assoc (bare p) (bare q) (bare_sequence a))
      ∙ sym (bare_append b (p ∷ q ∷ a)) ∙ ap bare_sequence (sym at)

  all_balanced : AllBalanced now
  unfolding join_focus join_parts
  all_balanced =
      let (hb, hp, hr) = each_apart b p (q ∷ a) (subst AllBalanced at g.bal) in
      let (none_before, hq, ha) = each_apart [] q a hr in
      balanced_orders (join_order ps p.target q.target) (b ++ (join_parts p q ∷ a))
      (each_append b (join_parts p q ∷ a) hb
      (each_cons
      (record {
        source = both_balanced p.source q.source hp.source hq.source;
        target = subst Balanced (sym (items_join p.target q.target)) (both_balanced (target_items p.target) (target_items q.target) hp.target hq.target);
      }) ha))

  pub join_7 : fault_7 now ≡ none
  join_7 =
      good_rule_7 now
      (record {
        source_side = λ i. subst (λ (l : Content). Shape (waits [] i) (marks i l)) (sym (join_source_here ps b p q a at)) (g.source_side i);
        target_side = λ i. subst (λ (l : Content). Shape (waits l i) (marks i (target_sequence now))) (sym bare_same)
            (subst (λ (l : Content). Shape (waits (bare_sequence ps) i) (marks i l)) (sym (join_target ps b p q a at five fit)) (g.target_side i));
        bal = all_balanced;
      })
