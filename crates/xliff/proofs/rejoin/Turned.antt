-- Turning pairs and annotations to the marks of start and end on a whole side, whichever they are: the unit is
-- flattened alike and stays in order.
use Prim.Native.Nat.{ℕ}
use native.Mathlib.Omega.{arith}
use mathlib.Core.Path.{◌≡◌, refl, sym, ap, ap₂, ◌∙◌, subst}
use mathlib.Core.Bool.{Bool, true, false, not, ◌&&◌, ◌||◌, cond}
use mathlib.Core.List.{List, [], ◌∷◌, ◌++◌, map}
use mathlib.Core.Option.{none}
use lib.Dec.{eqb}
use Rattle.xliff.specs.Bytes.{any}
use Rattle.xliff.specs.Item.{Item, Content, Half, form_S, in_form, flat, flattened, class, id_of, alike}
use Rattle.xliff.specs.Unit.{Target, no_target, target, Part, XliffUnit, target_items, source_sequence, target_sequence}
use Rattle.xliff.specs.Rules.{fault_5, fault_6, fault_7, fault_8, fault_9, fault_6_to_10}
use Rattle.xliff.specs.Focus.{with_parts}
use Rattle.xliff.specs.Rewrite.{rewrite_target}
use Rattle.xliff.specs.Rejoin.{OpenAtCuts, nothing_open, turned_item, turned_part, turned, both_open, flat_part, flat_unit}
use Rattle.xliff.specs.Good.{Each, GoodIn, GoodPart}
use Rattle.xliff.proofs.lists.Each.{each_map, each_weaken}
use Rattle.xliff.proofs.lists.Tests.{and_false, any_append, map_same, map_stays, map_map}
use Rattle.xliff.proofs.rules.Flat.{rule_9_kept, rule_10_kept}
use Rattle.xliff.proofs.rules.Stack.{Key, key}
use Rattle.xliff.proofs.rules.Balance.{Balanced}
use Rattle.xliff.proofs.rules.Marks.{Mk, mk, marks, Shape, sh_none, sh_pair, sh_lone, waits, any_mk}
use Rattle.xliff.proofs.rules.Turn.{turn, turn_mk, marks_turn, any_mk_turn, balanced_turn}
use Rattle.xliff.proofs.rules.Six.{Rule6, rule_6_counted}
use Rattle.xliff.proofs.rules.Seven.{bare_sequence, Good7, rule_7_good}
use Rattle.xliff.proofs.rules.Eight.{flat_turn, eased_turn}
use Rattle.xliff.proofs.rules.Starts.{good_if}
use Rattle.xliff.proofs.unit.Result.{then_left, then_right, then_none, Sent}
use Rattle.xliff.proofs.unit.Accepted.{Within}
use Rattle.xliff.proofs.unit.Forms.{same_size}
use Rattle.xliff.proofs.operations.Sources.{flat_in_form, flat_if, flattened_map}
use Rattle.xliff.proofs.operations.RewriteSides.{on_both, target_unchanged, good_target, sources_balanced, targets_balanced, source_is, target_is, Keeps, Kept, both_kept}

-- the pairs and annotations of a list, by key
abbrev keyed : Content → Key → Bool
keyed starts (key c i) = any (λ y. eqb c (class y) && eqb i (id_of y)) starts

flat_turned : (starts : Content) (x : Item) → flat (turned_item starts x) ≡ flat x
unfolding turned_item
flat_turned starts x = flat_if form_S (any (alike x) starts) x

-- PARTS CHANGED item by item, twice or to no effect: only what becomes of an item matters
target_twice : (f g h : Item → Item) → ((x : Item) → g (f x) ≡ h x) → (t : Target)
    → rewrite_target g (rewrite_target f t) ≡ rewrite_target h t
unfolding rewrite_target
target_twice f g h same no_target = refl
target_twice f g h same (target q xs) = ap (target q) (map_map g f xs ∙ map_same (λ x. g (f x)) h same xs)

twice : (f g h f' g' h' : Item → Item) → ((x : Item) → g (f x) ≡ h x) → ((x : Item) → g' (f' x) ≡ h' x) → (ps : List Part)
    → map (on_both g g') (map (on_both f f') ps) ≡ map (on_both h h') ps
twice f g h f' g' h' source_same target_same ps =
    map_map (on_both g g') (on_both f f') ps ∙ map_same (λ p. on_both g g' (on_both f f' p)) (on_both h h') each ps
  where
    each : (p : Part) → on_both g g' (on_both f f' p) ≡ on_both h h' p
    each p =
        ap₂ (λ (l : Content) (t : Target). record { head = p.head; source = l; target = t })
        (map_map g f p.source ∙ map_same (λ x. g (f x)) h source_same p.source)
        (target_twice f' g' h' target_same p.target)

unchanged : (f g : Item → Item) → ((x : Item) → f x ≡ x) → ((x : Item) → g x ≡ x) → (ps : List Part) → map (on_both f g) ps ≡ ps
unchanged f g source_same target_same ps = map_stays (on_both f g) each ps
  where
    each : (p : Part) → on_both f g p ≡ p
    each p =
        ap₂ (λ (l : Content) (t : Target). record { head = p.head; source = l; target = t }) (map_stays f source_same p.source)
        (target_unchanged g target_same p.target)

-- FLATTENED ALIKE
pub turned_flat : (c : OpenAtCuts) (u : XliffUnit) → flat_unit (turned c u) ≡ flat_unit u
unfolding flat_unit turned with_parts flat_part turned_part flattened
turned_flat c u =
    ap (with_parts u)
    (twice (turned_item c.source) flat flat (turned_item c.target) flat flat
    (flat_turned c.source) (flat_turned c.target) u.parts)

-- TURNED TWICE: those of both lists
item_twice : (starts more : Content) (x : Item) → turned_item more (turned_item starts x) ≡ turned_item (starts ++ more) x
unfolding turned_item alike flat
item_twice starts more x = by (any (alike x) starts) refl
  where
    again : (b : Bool) → cond b (in_form form_S (in_form form_S x)) (in_form form_S x) ≡ in_form form_S x
    again true = flat_in_form form_S x
    again false = refl

    both : any (alike x) (starts ++ more) ≡ any (alike x) starts || any (alike x) more
    both = any_append (alike x) starts more

    turns_by : {a b : Bool} → a ≡ b → cond a (in_form form_S x) x ≡ cond b (in_form form_S x) x
    turns_by e = ap (λ (z : Bool). cond z (in_form form_S x) x) e

    by : (b : Bool) → any (alike x) starts ≡ b
        → cond (any (alike (cond b (in_form form_S x) x)) more) (in_form form_S (cond b (in_form form_S x) x)) (cond b (in_form form_S x) x)
        ≡ cond (any (alike x) (starts ++ more)) (in_form form_S x) x
    by true e = again (any (alike (in_form form_S x)) more) ∙ sym (turns_by (both ∙ ap (λ (z : Bool). z || any (alike x) more) e))
    by false e = sym (turns_by (both ∙ ap (λ (z : Bool). z || any (alike x) more) e))

pub turned_twice : (c d : OpenAtCuts) (u : XliffUnit) → turned d (turned c u) ≡ turned (both_open c d) u
unfolding turned with_parts turned_part both_open
turned_twice c d u =
    ap (with_parts u)
    (twice (turned_item c.source) (turned_item d.source) (turned_item (c.source ++ d.source))
    (turned_item c.target) (turned_item d.target) (turned_item (c.target ++ d.target))
    (item_twice c.source d.source) (item_twice c.target d.target) u.parts)

-- and none of none
pub turned_none : (u : XliffUnit) → turned nothing_open u ≡ u
unfolding turned with_parts turned_part turned_item any
turned_none u = ap (with_parts u) (unchanged (turned_item []) (turned_item []) (λ x. refl) (λ x. refl) u.parts)

-- IN ORDER
shape_turned : {e : ℕ → Half → Bool} (h : Key → Bool) (i : ℕ) (l : List Mk) → Shape e l → Shape e (map (turn_mk h i) l)
shape_turned h i [] sh_none = sh_none
shape_turned {e = e} h i (m ∷ (n ∷ (_ ∷ _))) x7 = elim x7 [ ]
shape_turned h i (m ∷ n ∷ []) (sh_pair c w) = sh_pair c (not (h (key c i)) && w)
shape_turned {e} h i (m ∷ []) (sh_lone c s k) =
    subst (λ (b : Bool). Shape e (mk c b s ∷ [])) (sym (and_false (not (h (key c i))))) (sh_lone c s k)

-- what `both_kept` asks of each side
turns : (h : Key → Bool) (e : ℕ → ℕ → Half → Bool) (content : Part → Content) (xs : Content) (ps : List Part)
    → ((j : ℕ) → Shape (e j) (marks j xs)) → Each (λ p. Balanced (content p)) ps → Keeps (turn h) e content xs ps
turns h e content xs ps shapes balanced =
    record {
      flat_same = flat_turn h;
      eased = eased_turn h [] xs;
      shapes = λ j. subst (Shape (e j)) (sym (marks_turn h j xs)) (shape_turned h j (marks j xs) (shapes j));
      blind = λ j ys c s. ap (any_mk c s) (marks_turn h j ys) ∙ any_mk_turn h j c s (marks j ys);
      balanced = each_weaken (λ p b. balanced_turn h (content p) b) ps balanced;
    }

kept_5_to_8 : (c : OpenAtCuts) (ps : List Part) → fault_5 ps ≡ none → fault_6_to_10 ps ≡ none → Kept (map (turned_part c) ps)
unfolding turned_part fault_6_to_10 turned_item turn flat alike
kept_5_to_8 c ps five rules =
    let r7 = then_right (fault_6 ps) _ rules in
    let r8 = then_right (fault_7 ps) _ r7 in
    let six : Rule6 ps = rule_6_counted ps (then_left _ _ rules) in
    let seven : Good7 ps = rule_7_good ps six (then_left _ _ r7) in
    both_kept (turned_item c.source) (turned_item c.target) ps five six (then_left _ _ r8)
    (turns (keyed c.source) (λ j. waits [] j) (λ p. p.source) (source_sequence ps) ps
    seven.source_side (sources_balanced ps seven.bal))
    (turns (keyed c.target) (λ j. waits (bare_sequence ps) j) (λ p. target_items p.target) (target_sequence ps) ps
    seven.target_side (targets_balanced ps seven.bal))

kept_6_to_10 : (c : OpenAtCuts) (ps : List Part) → fault_5 ps ≡ none → fault_6_to_10 ps ≡ none
    → fault_6_to_10 (map (turned_part c) ps) ≡ none
unfolding turned_part fault_6_to_10
kept_6_to_10 c ps five rules =
    let qs : List Part = map (turned_part c) ps in
    let f : Item → Item = turned_item c.source in
    let g : Item → Item = turned_item c.target in
    let r9 = then_right (fault_8 ps) _ (then_right (fault_7 ps) _ (then_right (fault_6 ps) _ rules)) in
    let k = kept_5_to_8 c ps five rules in
    let source_same = ap flattened (source_is f g ps) ∙ flattened_map f (flat_turned c.source) (source_sequence ps) in
    let target_same = ap flattened (target_is f g ps) ∙ flattened_map g (flat_turned c.target) (target_sequence ps) in
    then_none _ _ k.six (then_none _ _ k.seven (then_none _ _ k.eight
    (then_none _ _ (rule_9_kept ps qs source_same target_same (then_left _ _ r9))
    (rule_10_kept ps qs source_same target_same (then_right (fault_9 ps) _ r9)))))

-- good as bytes
good_turned : (starts : Content) (x : Item) → GoodIn x → GoodIn (turned_item starts x)
unfolding turned_item
good_turned starts x g = good_if form_S (any (alike x) starts) x g

good_part : (c : OpenAtCuts) (p : Part) → GoodPart p → GoodPart (turned_part c p)
unfolding turned_part
good_part c p g =
    record {
      head = g.head;
      source = each_map (turned_item c.source) (good_turned c.source) p.source g.source;
      target = good_target (turned_item c.target) (good_turned c.target) p.target g.target;
    }

pub turned_sent : (c : OpenAtCuts) (u : XliffUnit) → Sent u → Sent (turned c u)
unfolding turned with_parts
turned_sent c u h =
    record {
      letter = h.letter;
      first = turned_part c h.first;
      others = map (turned_part c) h.others;
      parts = ap (map (turned_part c)) h.parts;
      good = each_map (turned_part c) (good_part c) u.parts h.good;
      rule_5 = (kept_5_to_8 c u.parts h.rule_5 h.rules).five;
      rules = kept_6_to_10 c u.parts h.rule_5 h.rules;
    }

-- within the limits
pub turned_within : (c : OpenAtCuts) (u : XliffUnit) → Within u → Within (turned c u)
turned_within c u w =
    let e = same_size (turned c u) u (turned_flat c u) in
    record {
      size = omega (arith, e.size, w.size);
      records = omega (arith, e.records, w.records);
      parts = omega (arith, e.parts, w.parts);
    }
