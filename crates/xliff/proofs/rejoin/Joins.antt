-- A join that nothing but its output can make refused; and a join of a unit with turned marks, which gives the joined
-- unit with the same marks turned.
use Prim.Native.Nat.{ℕ, suc, ◌≤◌, ◌<◌}
use mathlib.Core.Path.{◌≡◌, refl, sym, ap, ap₂, ◌∙◌, subst}
use mathlib.Core.Bool.{Bool, true, false}
use mathlib.Core.List.{List, [], ◌∷◌, ◌++◌, map}
use mathlib.Core.Option.{Option, none}
use lib.Dec.{ltb}
use lib.ListN.{length, length-map}
use borrow.Author.Tests.{lt-ltb, le-ltb}
use Rattle.xliff.specs.Item.{Item, Content}
use Rattle.xliff.specs.Unit.{Target, no_target, target, Part, XliffUnit, is_closed, orders}
use Rattle.xliff.specs.Encode.{encode}
use Rattle.xliff.specs.Answer.{Refusal, applies, ◌then◌, is_fault, Outcome, result, refuse, unless}
use Rattle.xliff.specs.Parse.{most_bytes}
use Rattle.xliff.specs.Rules.{fault_6, fault_7, fault_6_to_10}
use Rattle.xliff.specs.Check.{Valid, table_refusal, too_large, operation}
use Rattle.xliff.specs.Focus.{Focus, here, focus, order_target, order_part, order_parts, with_parts}
use Rattle.xliff.specs.Join.{join_targets, join_parts, highest_unused, lower_above, join_order, join_focus, join_unit, bad_orders, join_refusal, join}
use Rattle.xliff.specs.Rewrite.{rewrite_target}
use Rattle.xliff.specs.Rejoin.{OpenAtCuts, turned_item, turned_part, turned}
use Rattle.xliff.proofs.lists.Tests.{map-append, or_both}
use Rattle.xliff.proofs.unit.Result.{then_left, then_right, then_none, then_last, applies_false, Sent, result_valid}
use Rattle.xliff.proofs.unit.Accepted.{Within, only_room, read_back}
use Rattle.xliff.proofs.operations.Sources.{focus_here, focus_at, focus_in}
use Rattle.xliff.proofs.operations.RewriteSides.{same_orders, order_same}
use Rattle.xliff.proofs.rejoin.Turned.{turned_sent, turned_within}

-- THE OUTPUT ALONE: a unit within the limits is its bytes where they have room, and 15 elsewhere
abbrev pub output_asked : ℕ → XliffUnit → Outcome
output_asked room v = unless (applies 15 (too_large room v)) (encode v)

room_asked : (room : ℕ) (v : XliffUnit) → Within v → (b : Bool) → ltb room (length (encode v)) ≡ b
    → output_asked room v ≡ unless (applies 15 b) (encode v)
room_asked room v w b e = ap (λ (c : Bool). unless (applies 15 c) (encode v)) (only_room v w room ∙ e)

pub room_enough : (room : ℕ) (v : XliffUnit) → Within v → length (encode v) ≤ room → output_asked room v ≡ result (encode v)
unfolding unless applies
room_enough room v w l = room_asked room v w false (le-ltb room (length (encode v)) l)

pub room_short : (room : ℕ) (v : XliffUnit) → Within v → room < length (encode v)
    → output_asked room v ≡ refuse (record { number = 15; place = 0 })
unfolding unless applies
room_short room v w l = room_asked room v w true (lt-ltb room (length (encode v)) l)

-- WHAT A JOIN ASKS of the two parts
pub record Joinable (v : XliffUnit) (n : ℕ) : Type 0 where
  pub before : List Part
  pub one : Part
  pub two : Part
  pub rest : List Part
  pub at : focus v.parts n ≡ here before one (two ∷ rest)
  pub one_open : is_closed v.opening.can_resegment one ≡ false
  pub two_open : is_closed v.opening.can_resegment two ≡ false
  pub in_sequence : bad_orders one.target two.target ≡ false

not_refused : (v : XliffUnit) (n : ℕ) → Joinable v n → fault_7 (join_unit v n).parts ≡ none
    → join_refusal v n (focus v.parts n) ≡ none
unfolding join_refusal is_fault
not_refused v n j seven =
    subst (λ (f : Focus). join_refusal v n f ≡ none) (sym j.at)
    (then_none _ _ (applies_false 12 _ (or_both _ _ j.one_open j.two_open))
    (then_none _ _ (applies_false 16 _ j.in_sequence) (applies_false 17 _ (ap is_fault seven))))

-- such a join, where the result meets 5 to 10
join_does : (v : XliffUnit) (n room : ℕ) → Joinable v n → Sent v → Within v → Sent (join_unit v n)
    → join (encode v) n room ≡ output_asked room (join_unit v n)
unfolding join operation unless Valid fault_6_to_10
join_does v n room j sent_v within_v sent_joined =
    subst
    (λ (u : XliffUnit).
    operation (encode v) (join_refusal u n (focus u.parts n) then applies 15 (too_large room (join_unit u n))) (join_unit u n)
    ≡ output_asked room (join_unit v n))
    (sym (read_back v sent_v within_v))
    (ap (λ (o : Option Refusal). unless o (encode (join_unit v n)))
    (then_last (table_refusal (encode v)) (join_refusal v n (focus v.parts n)) (applies 15 (too_large room (join_unit v n)))
    (result_valid most_bytes v sent_v (only_room v within_v most_bytes ∙ le-ltb most_bytes (length (encode v)) within_v.size))
    (not_refused v n j seven)))
  where
    seven : fault_7 (join_unit v n).parts ≡ none
    seven = then_left _ _ (then_right (fault_6 (join_unit v n).parts) _ sent_joined.rules)

-- JOINED AND TURNED, in either sequence
module _ (c : OpenAtCuts) where
  abbrev turning : Part → Part
  turning p = turned_part c p

  targets_joined : (f : Item → Item) (g h : Target)
      → join_targets (rewrite_target f g) (rewrite_target f h) ≡ rewrite_target f (join_targets g h)
  unfolding join_targets rewrite_target
  targets_joined f no_target no_target = refl
  targets_joined f no_target (target r ys) = refl
  targets_joined f (target q xs) no_target = refl
  targets_joined f (target q xs) (target r ys) = ap (target q) (sym (map-append f xs ys))

  parts_joined : (p q : Part) → join_parts (turning p) (turning q) ≡ turning (join_parts p q)
  unfolding join_parts turned_part
  parts_joined p q =
      ap₂ (λ (l : Content) (g : Target). record { head = (join_parts p q).head; source = l; target = g })
      (sym (map-append (turned_item c.source) p.source q.source))
      (targets_joined (turned_item c.target) p.target q.target)

  target_ordered : (f : ℕ → ℕ) (k : Item → Item) (g : Target)
      → order_target f (rewrite_target k g) ≡ rewrite_target k (order_target f g)
  unfolding order_target rewrite_target
  target_ordered f k no_target = refl
  target_ordered f k (target q xs) = refl

  parts_ordered : (f : ℕ → ℕ) (ps : List Part) → order_parts f (map turning ps) ≡ map turning (order_parts f ps)
  unfolding order_parts order_part turned_part
  parts_ordered f [] = refl
  parts_ordered f (p ∷ ps) =
      ap₂ {C = List Part} ◌∷◌
      (ap (λ (g : Target). record { head = p.head; source = map (turned_item c.source) p.source; target = g })
      (target_ordered f (turned_item c.target) p.target))
      (parts_ordered f ps)

  -- the same orders are unused, so the same orders fall
  orders_same : (ps : List Part) → orders (map turning ps) ≡ orders ps
  unfolding turned_part
  orders_same ps = same_orders turning (λ p. order_same (turned_item c.source) (turned_item c.target) p.target) ps

  same_unused : (ps : List Part)
      → lower_above (highest_unused (length (map turning ps)) (orders (map turning ps)))
      ≡ lower_above (highest_unused (length ps) (orders ps))
  same_unused ps = ap lower_above (ap₂ highest_unused (length-map ps turning) (orders_same ps))

  same_fall : (ps : List Part) (f : Item → Item) (g h : Target)
      → join_order (map turning ps) (rewrite_target f g) (rewrite_target f h) ≡ join_order ps g h
  unfolding join_order rewrite_target
  same_fall ps f no_target no_target = same_unused ps
  same_fall ps f no_target (target r ys) = same_unused ps
  same_fall ps f (target q xs) no_target = same_unused ps
  same_fall ps f (target q xs) (target r ys) = refl

  focus_joined : (ps b : List Part) (p q : Part) (a : List Part)
      → join_focus (map turning ps) (here (map turning b) (turning p) (turning q ∷ map turning a))
      ≡ map turning (join_focus ps (here b p (q ∷ a)))
  unfolding join_focus turned_part
  focus_joined ps b p q a =
      ap₂ (λ (f : ℕ → ℕ) (l : List Part). order_parts f l) (same_fall ps (turned_item c.target) p.target q.target)
      (ap (λ (r : Part). map turning b ++ (r ∷ map turning a)) (parts_joined p q) ∙ sym (map-append turning b (join_parts p q ∷ a)))
      ∙ parts_ordered (join_order ps p.target q.target) (b ++ (join_parts p q ∷ a))

  focus_turned : (ps : List Part) (n : ℕ) (b : List Part) (p : Part) (a : List Part) → focus ps n ≡ here b p a
      → focus (map turning ps) n ≡ here (map turning b) (turning p) (map turning a)
  focus_turned ps n b p a e =
      ap₂ focus (ap (map turning) (focus_here ps n b p a e) ∙ map-append turning b (p ∷ a))
      (focus_at ps n b p a e ∙ ap suc (sym (length-map b turning)))
      ∙ focus_in (map turning b) (turning p) (map turning a)

  unit_joined : (v : XliffUnit) (n : ℕ) → Joinable v n → join_unit (turned c v) n ≡ turned c (join_unit v n)
  unfolding join_unit turned with_parts
  unit_joined v n j =
      ap (with_parts v)
      (ap (join_focus (map turning v.parts)) (focus_turned v.parts n j.before j.one (j.two ∷ j.rest) j.at)
      ∙ focus_joined v.parts j.before j.one j.two j.rest
      ∙ ap (λ (f : Focus). map turning (join_focus v.parts f)) (sym j.at))

  same_sequence : (f : Item → Item) (g h : Target) → bad_orders (rewrite_target f g) (rewrite_target f h) ≡ bad_orders g h
  unfolding bad_orders rewrite_target
  same_sequence f no_target no_target = refl
  same_sequence f no_target (target r ys) = refl
  same_sequence f (target q xs) no_target = refl
  same_sequence f (target q xs) (target r ys) = refl

  still_joinable : (v : XliffUnit) (n : ℕ) → Joinable v n → Joinable (turned c v) n
  unfolding turned with_parts turned_part is_closed
  still_joinable v n j =
      record {
        before = map turning j.before;
        one = turning j.one;
        two = turning j.two;
        rest = map turning j.rest;
        at = focus_turned v.parts n j.before j.one (j.two ∷ j.rest) j.at;
        one_open = j.one_open;
        two_open = j.two_open;
        in_sequence = same_sequence (turned_item c.target) j.one.target j.two.target ∙ j.in_sequence;
      }

  -- a join of the turned unit
  pub join_turned : (v : XliffUnit) (n room : ℕ) → Joinable v n → Sent v → Within v → Sent (join_unit v n)
      → join (encode (turned c v)) n room ≡ output_asked room (turned c (join_unit v n))
  join_turned v n room j sent_v within_v sent_joined =
      let e = unit_joined v n j in
      join_does (turned c v) n room (still_joinable v n j) (turned_sent c v sent_v) (turned_within c v within_v)
      (subst Sent (sym e) (turned_sent c (join_unit v n) sent_joined))
      ∙ ap (output_asked room) e
