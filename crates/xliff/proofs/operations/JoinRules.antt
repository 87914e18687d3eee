-- Laws of join: the result meets 6, 8, 9 and 10.
use Prim.Native.Nat.{ℕ, ◌+◌, ◌≤◌}
use native.Mathlib.Omega.{arith}
use mathlib.Core.Path.{◌≡◌, refl, sym, ap, ap₂, ◌∙◌, subst}
use mathlib.Core.Bool.{Bool, ◌&&◌, cond}
use mathlib.Core.List.{List, [], ◌∷◌, ◌++◌, append-nil}
use mathlib.Core.Option.{none}
use lib.Dec.{eqb}
use Rattle.xliff.specs.Bytes.{'-'}
use Rattle.xliff.specs.Item.{Content}
use Rattle.xliff.specs.Unit.{Segment, Head, segment, ignorable, Target, no_target, target, Part, head_id, target_items, source_sequence, target_sequence}
use Rattle.xliff.specs.Rules.{fault_6, fault_8, fault_9, fault_10, bad_8_source, bad_8_target, bad_9, bad_10_source, bad_10_target}
use Rattle.xliff.specs.Focus.{here, order_parts}
use Rattle.xliff.specs.Join.{dash, join_states, join_heads, join_targets, join_parts, join_order, join_focus}
use Rattle.xliff.proofs.lists.Sum.{bit, sum_append}
use Rattle.xliff.proofs.rules.Sequences.{clear, rule_8, rule_8_back, rule_9, rule_9_back, rule_10, rule_10_back}
use Rattle.xliff.proofs.rules.Six.{start_bit, starts, part_bit, source_ids, target_ids, Rule6, rule_6_counted, counted_rule_6}
use Rattle.xliff.proofs.rules.Starts.{source_ids_orders, target_ids_orders}

-- what is measured of a head, of the head that is kept
one_of : (n : Head → ℕ) → ((f g : Segment) → f.id ≡ g.id → n (segment f) ≡ n (segment g))
    → (h i : Head) → n (join_heads h i) ≤ n h + n i
unfolding join_heads
one_of n e (ignorable i) (ignorable j) = omega arith
one_of n e (ignorable i) (segment g) =
    omega (arith, e (record { id = g.id; can_resegment = dash (eqb g.can_resegment '-'); state = g.state }) g refl)
one_of n e (segment f) (ignorable j) =
    omega (arith, e (record { id = f.id; can_resegment = dash (eqb f.can_resegment '-'); state = f.state }) f refl)
one_of n e (segment f) (segment g) =
    let both_dash : Bool = eqb f.can_resegment '-' && eqb g.can_resegment '-' in
    let joined : Segment
    = record { id = f.id; can_resegment = dash both_dash; state = join_states f.state g.state } in
    omega (arith, e joined f refl)

-- the id that is kept is that of one of the two
joined_bit : (i : ℕ) (p q : Part) → part_bit i (join_parts p q) ≤ part_bit i p + part_bit i q
unfolding join_parts head_id
joined_bit i p q = by p.head q.head
  where
    id_bit : Head → ℕ
    id_bit h = cond {A = ℕ} (eqb (head_id h) 0) 0 (bit (eqb (head_id h) i))

    by : (g h : Head) → id_bit (join_heads g h) ≤ id_bit g + id_bit h
    by g h = one_of id_bit (λ f k e. ap (λ (j : ℕ). cond {A = ℕ} (eqb j 0) 0 (bit (eqb j i))) e) g h

pub items_join : (g h : Target) → target_items (join_targets g h) ≡ target_items g ++ target_items h
unfolding target_items join_targets
items_join no_target no_target = refl
items_join no_target (target r ys) = refl
items_join (target q xs) no_target = sym (append-nil xs)
items_join (target q xs) (target r ys) = refl

-- Join keeps 6
pub join_6 : (ps b : List Part) (p q : Part) (a : List Part) → ps ≡ b ++ (p ∷ q ∷ a)
    → fault_6 ps ≡ none → fault_6 (join_focus ps (here b p (q ∷ a))) ≡ none
unfolding join_focus join_parts
join_6 ps b p q a e f = counted_rule_6 _ (counted (subst Rule6 e (rule_6_counted ps f)))
  where
    g : ℕ → ℕ
    g = join_order ps p.target q.target

    counted : Rule6 (b ++ (p ∷ q ∷ a)) → Rule6 (order_parts g (b ++ (join_parts p q ∷ a)))
    counted r =
        record {
          source_side = λ i.
              let x = sum_append (source_ids i) b (p ∷ q ∷ a) in
              let y = sum_append (source_ids i) b (join_parts p q ∷ a) in
              let z = source_ids_orders i g (b ++ (join_parts p q ∷ a)) in
              let s = sum_append (start_bit i) p.source q.source in
              let w = joined_bit i p q in
              let m = r.source_side i in
              omega arith;
          target_side = λ i.
              let x = sum_append (target_ids i) b (p ∷ q ∷ a) in
              let y = sum_append (target_ids i) b (join_parts p q ∷ a) in
              let z = target_ids_orders i g (b ++ (join_parts p q ∷ a)) in
              let s = sum_append (start_bit i) (target_items p.target) (target_items q.target) in
              let t = ap (starts i) (items_join p.target q.target) in
              let w = joined_bit i p q in
              let m = r.target_side i in
              omega arith;
        }

-- Join keeps 8, 9 and 10: the two sequences are the same
pub join_8 : (ps qs : List Part) → source_sequence qs ≡ source_sequence ps → target_sequence qs ≡ target_sequence ps
    → fault_8 ps ≡ none → fault_8 qs ≡ none
join_8 ps qs s t e =
    let (k, l) = rule_8 ps e in
    rule_8_back qs (ap (clear bad_8_source []) s ∙ k) (ap (clear bad_8_target []) t ∙ l)

pub join_9 : (ps qs : List Part) → source_sequence qs ≡ source_sequence ps → target_sequence qs ≡ target_sequence ps
    → fault_9 ps ≡ none → fault_9 qs ≡ none
join_9 ps qs s t e = let (k, l) = rule_9 ps e in rule_9_back qs (ap (clear bad_9 []) s ∙ k) (ap (clear bad_9 []) t ∙ l)

pub join_10 : (ps qs : List Part) → source_sequence qs ≡ source_sequence ps → target_sequence qs ≡ target_sequence ps
    → fault_10 ps ≡ none → fault_10 qs ≡ none
join_10 ps qs s t e =
    let (k, l) = rule_10 ps e in
    rule_10_back qs (ap (clear bad_10_source []) s ∙ k) (ap₂ (λ (u v : Content). clear (bad_10_target u) [] v) s t ∙ l)
