-- An accepted split leaves a valid table.
use Prim.Native.Nat.{ℕ, ◌+◌, ◌≤◌}
use native.Mathlib.Omega.{arith}
use mathlib.Core.Path.{◌≡◌, refl, sym, ap, ap₂, ◌∙◌, subst}
use mathlib.Core.Bool.{Bool, true, false, not, ◌&&◌, cond, true≢false}
use mathlib.Core.List.{List, [], ◌∷◌, ◌++◌}
use mathlib.Core.Option.{none}
use lib.Dec.{eqb}
use lib.ListN.{take, drop, take-append-drop}
use borrow.Author.Tests.{eqb-true}
use Rattle.xliff.specs.Bytes.{Bytes, any, among}
use Rattle.xliff.specs.Answer.{applies, result}
use Rattle.xliff.specs.Item.{Item, Content, form_S, flattened, id_of, is_start, other_half}
use Rattle.xliff.specs.Unit.{Head, segment, ignorable, Target, no_target, target, Part, XliffUnit, head_id, target_items, is_closed, source_sequence, target_sequence, with_id}
use Rattle.xliff.specs.Parse.{unit}
use Rattle.xliff.specs.Rules.{starts_id, fault_5, fault_6, fault_7, fault_8, fault_9, fault_6_to_10}
use Rattle.xliff.specs.Check.{Valid, too_large}
use Rattle.xliff.specs.Focus.{Focus, nowhere, here, focus, order_parts, with_parts}
use Rattle.xliff.specs.Split.{cut_item, first_items, second_items, first_target, second_target, split_order, first_half, second_half, split_focus, split_unit, has_id, part_has_id, id_taken, bad_cut, accent_parted, split_refusal, split}
use Rattle.xliff.proofs.lists.Sum.{bit, sum, sum_append}
use Rattle.xliff.specs.Good.{each_cons, GoodHead, GoodIn, GoodContent, GoodTarget, GoodParts}
use Rattle.xliff.proofs.lists.Each.{each_append, each_apart, each_take, each_drop, each_map}
use Rattle.xliff.proofs.lists.Tests.{or_left, or_right}
use Rattle.xliff.proofs.operations.Sources.{focus_here, flat_cut, split_source}
use Rattle.xliff.proofs.operations.SplitTarget.{split_target}
use Rattle.xliff.proofs.operations.SplitOrders.{split_5}
use Rattle.xliff.proofs.rules.Flat.{rule_9_kept, rule_10_kept}
use Rattle.xliff.proofs.unit.Result.{then_left, then_right, then_none, applies_none, operation_result, Sent, sent}
use Rattle.xliff.proofs.unit.Accepted.{Accepted, accepted_valid}
use Rattle.xliff.proofs.operations.SetValid.{some_part}
use Rattle.xliff.proofs.operations.JoinValid.{orders_good}
use Rattle.xliff.proofs.rules.Six.{start_bit, starts, part_bit, source_ids, target_ids, Rule6, rule_6_counted, counted_rule_6}
use Rattle.xliff.proofs.rules.Seven.{Good7, rule_7_good, good_rule_7}
use Rattle.xliff.proofs.operations.Cut.{split_keeps}
use Rattle.xliff.proofs.rules.Eight.{turned_eased, eased_8}
use Rattle.xliff.proofs.rules.Starts.{starts_map, source_ids_orders, target_ids_orders, good_if}

-- Rule 6: the starts of a content are those of its two halves
starts_halves : (i n : ℕ) (xs : Content) → starts i (first_items n xs) + starts i (second_items n xs) ≡ starts i xs
unfolding first_items second_items
starts_halves i n xs =
    ap₂ ◌+◌ (starts_map i (cut_item (drop n xs)) (flat_cut (drop n xs)) (take n xs))
    (starts_map i (cut_item (take n xs)) (flat_cut (take n xs)) (drop n xs))
    ∙ sym (sum_append (start_bit i) (take n xs) (drop n xs)) ∙ ap (starts i) (take-append-drop n xs)

starts_targets : (i n : ℕ) (g : Target)
    → starts i (target_items (first_target n g)) + starts i (target_items (second_target n g)) ≡ starts i (target_items g)
unfolding first_target second_target target_items
starts_targets i n no_target = refl
starts_targets i n (target q xs) = starts_halves i n xs

-- the new id: no part and no record has it
new_bit : ℕ → ℕ → ℕ
new_bit i new = cond (eqb new 0) 0 (bit (eqb new i))

new_head : (i new : ℕ) (h : Head) → cond (eqb (head_id (with_id new h)) 0) 0 (bit (eqb (head_id (with_id new h)) i)) ≡ new_bit i new
unfolding head_id with_id new_bit
new_head i new (segment f) = refl
new_head i new (ignorable j) = refl

none_starts : (i : ℕ) (xs : Content) → any (has_id i) xs ≡ false → starts i xs ≡ 0
unfolding any has_id starts_id
none_starts i [] e = refl
none_starts i (x ∷ xs) e =
    let a : eqb (id_of x) i ≡ false = or_left _ _ e in
    let b = none_starts i xs (or_right (eqb (id_of x) i) _ e) in
    rw a (let c : bit (is_start x && false) ≡ 0 = no (is_start x) in omega arith)
  where
    no : (b : Bool) → bit (b && false) ≡ 0
    no true = refl
    no false = refl

none_part : (i : ℕ) (p : Part) → part_has_id i p ≡ false → (source_ids i p ≡ 0) × (target_ids i p ≡ 0)
unfolding part_has_id
none_part i p e =
    let a : eqb (head_id p.head) i ≡ false = or_left _ _ e in
    let r = or_right (eqb (head_id p.head) i) _ e in
    let b = none_starts i p.source (or_left _ _ r) in
    let c = none_starts i (target_items p.target) (or_right (any (has_id i) p.source) _ r) in
    let d : part_bit i p ≡ 0 = rw a (same (eqb (head_id p.head) 0)) in
    (omega arith, omega arith)
  where
    same : (b : Bool) → cond {A = ℕ} b 0 0 ≡ 0
    same true = refl
    same false = refl

none_parts : (i : ℕ) (ps : List Part) → any (part_has_id i) ps ≡ false → (sum (source_ids i) ps ≡ 0) × (sum (target_ids i) ps ≡ 0)
unfolding any
none_parts i [] e = (refl, refl)
none_parts i (p ∷ ps) e =
    let (a, b) = none_part i p (or_left _ _ e) in
    let (c, d) = none_parts i ps (or_right (part_has_id i p) _ e) in
    (omega arith, omega arith)

one_more : (i new : ℕ) (ps : List Part) (f : ℕ → Part → ℕ) → sum (f i) ps ≤ 1 → (any (part_has_id new) ps ≡ false → sum (f new) ps ≡ 0)
    → id_taken ps new ≡ false → sum (f i) ps + new_bit i new ≤ 1
unfolding id_taken new_bit
one_more i new ps f a z t = by (eqb new 0) (eqb new i) refl t
  where
    by : (b c : Bool) → eqb new i ≡ c → not b && any (part_has_id new) ps ≡ false → sum (f i) ps + cond b 0 (bit c) ≤ 1
    by true c e k = omega arith
    by false false e k = omega arith
    by false true e k = let q : sum (f i) ps ≡ 0 = subst (λ (j : ℕ). sum (f j) ps ≡ 0) (eqb-true new i e) (z k) in omega arith

split_6 : (source_cut target_cut new : ℕ) (b : List Part) (p : Part) (a : List Part) → id_taken (b ++ (p ∷ a)) new ≡ false
    → Rule6 (b ++ (p ∷ a))
    → Rule6 (split_focus source_cut target_cut new (b ++ (p ∷ a)) (here b p a))
unfolding split_focus first_half second_half
split_6 source_cut target_cut new b p a t r =
    let f : ℕ → ℕ = split_order p.target in
    let rest : List Part = first_half source_cut target_cut p ∷ second_half source_cut target_cut new p ∷ order_parts f a in
    record {
      source_side = λ i.
          let x = sum_append (source_ids i) (order_parts f b) rest in
          let y = sum_append (source_ids i) b (p ∷ a) in
          let u = source_ids_orders i f b in
          let v = source_ids_orders i f a in
          let w = starts_halves i source_cut p.source in
          let n = new_head i new p.head in
          let m = one_more i new (b ++ (p ∷ a)) source_ids (r.source_side i) (λ k. (none_parts new (b ++ (p ∷ a)) k).0) t in
          omega arith;
      target_side = λ i.
          let x = sum_append (target_ids i) (order_parts f b) rest in
          let y = sum_append (target_ids i) b (p ∷ a) in
          let u = target_ids_orders i f b in
          let v = target_ids_orders i f a in
          let w = starts_targets i target_cut p.target in
          let n = new_head i new p.head in
          let m = one_more i new (b ++ (p ∷ a)) target_ids (r.target_side i) (λ k. (none_parts new (b ++ (p ∷ a)) k).1) t in
          omega arith;
    }

-- good as bytes
good_cut : (beyond : Content) (x : Item) → GoodIn x → GoodIn (cut_item beyond x)
unfolding cut_item
good_cut beyond x g = good_if form_S (any (other_half x) beyond) x g

good_first : (n : ℕ) (xs : Content) → GoodContent xs → GoodContent (first_items n xs)
unfolding first_items
good_first n xs g = each_map (cut_item (drop n xs)) (good_cut (drop n xs)) (take n xs) (each_take n xs g)

good_second : (n : ℕ) (xs : Content) → GoodContent xs → GoodContent (second_items n xs)
unfolding second_items
good_second n xs g = each_map (cut_item (take n xs)) (good_cut (take n xs)) (drop n xs) (each_drop n xs g)

good_targets : (n : ℕ) (g : Target) → GoodTarget g → GoodTarget (first_target n g) × GoodTarget (second_target n g)
unfolding first_target second_target
good_targets n no_target k = (tt, tt)
good_targets n (target q xs) k = (good_first n xs k, good_second n xs k)

-- with a new id (the state by search: any good one would do)
good_id : (i : ℕ) (h : Head) → GoodHead h → GoodHead (with_id i h)
unfolding with_id among
good_id i (segment f) g = (g.0, search g.1)
good_id i (ignorable j) g = g

split_good : (source_cut target_cut new : ℕ) (b : List Part) (p : Part) (a : List Part) → GoodParts (b ++ (p ∷ a))
    → GoodParts (split_focus source_cut target_cut new (b ++ (p ∷ a)) (here b p a))
unfolding split_focus first_half second_half
split_good source_cut target_cut new b p a h =
    let (gb, gp, ga) = each_apart b p a h in
    let (one, two) = good_targets target_cut p.target gp.target in
    let f : ℕ → ℕ = split_order p.target in
    each_append (order_parts f b) _ (orders_good f b gb)
    (each_cons (record { head = gp.head; source = good_first source_cut p.source gp.source; target = one })
    (each_cons (record { head = good_id new p.head gp.head; source = good_second source_cut p.source gp.source; target = two })
    (orders_good f a ga)))

-- An accepted split
pub split_accepted : (t : List ℕ) (n source_cut target_cut new room : ℕ) (r : List ℕ) → Bytes t
    → split t n source_cut target_cut new room ≡ result r
    → Accepted t (split_unit (unit t) n source_cut target_cut new) r
unfolding split split_unit split_focus with_parts split_refusal fault_6_to_10 Valid
split_accepted t n source_cut target_cut new room r bt e =
    let (valid, own, same) = operation_result t _ _ r e in
    let first = then_left (split_refusal (unit t) source_cut target_cut new (focus (unit t).parts n)) _ own in
    let small = applies_none 15 (too_large room (split_unit (unit t) n source_cut target_cut new))
    (then_right (split_refusal (unit t) source_cut target_cut new (focus (unit t).parts n)) _ own) in
    let h = sent t bt valid in
    record { was = h; now = by (focus (unit t).parts n) refl first h; bytes = same; room = room; fits = small }
  where
    u : XliffUnit
    u = unit t

    v : Focus → XliffUnit
    v f = with_parts u (split_focus source_cut target_cut new u.parts f)

    whole : (b : List Part) (p : Part) (a : List Part) → u.parts ≡ b ++ (p ∷ a) → focus u.parts n ≡ here b p a
        → id_taken u.parts new ≡ false
        → Sent u → Sent (v (here b p a))
    whole b p a at k taken h =
        let ps : List Part = u.parts in
        let qs : List Part = split_focus source_cut target_cut new ps (here b p a) in
        let old : List Part = b ++ (p ∷ a) in
        let now_at : split_focus source_cut target_cut new old (here b p a)
        ≡ qs = ap (λ (l : List Part). split_focus source_cut target_cut new l (here b p a)) (sym at) in
        let r7 = then_right (fault_6 ps) _ h.rules in
        let r8 = then_right (fault_7 ps) _ r7 in
        let r9 = then_right (fault_8 ps) _ r8 in
        let six : Rule6 old = subst Rule6 at (rule_6_counted ps (then_left _ _ h.rules)) in
        let five : fault_5 old ≡ none = ap fault_5 (sym at) ∙ h.rule_5 in
        let seven : Good7 old = rule_7_good old six (ap fault_7 (sym at) ∙ then_left _ _ r7) in
        let kept = split_keeps source_cut target_cut new ps b p a five seven in
        let source_same = subst (λ (f : Focus). flattened (source_sequence (split_focus source_cut target_cut new ps f))
        ≡ flattened (source_sequence ps)) k (split_source source_cut target_cut new ps n) in
        let target_same = subst (λ (f : Focus). flattened (target_sequence (split_focus source_cut target_cut new ps f))
        ≡ flattened (target_sequence ps)) k (split_target source_cut target_cut new ps n h.rule_5) in
        let (x, xs, shown) = some_part (order_parts (split_order p.target) b) (first_half source_cut target_cut p)
        (second_half source_cut target_cut new p ∷ order_parts (split_order p.target) a) in
        record {
          letter = h.letter;
          first = x;
          others = xs;
          parts = listed b p a x xs shown;
          good = subst GoodParts now_at (split_good source_cut target_cut new b p a (subst GoodParts at h.good));
          rule_5 = ap fault_5 (sym now_at) ∙ split_5 source_cut target_cut new b p a five;
          rules =
              then_none _ _
              (counted_rule_6 qs
              (subst Rule6 now_at (split_6 source_cut target_cut new b p a (ap (λ (l : List Part). id_taken l new) (sym at) ∙ taken) six)))
              (then_none _ _ (good_rule_7 qs kept.seven)
              (then_none _ _
              (eased_8 old qs (turned_eased _ _ kept.source) (turned_eased _ _ kept.target) (ap fault_8 (sym at) ∙ then_left _ _ r8))
              (then_none _ _ (rule_9_kept ps qs source_same target_same (then_left _ _ r9))
              (rule_10_kept ps qs source_same target_same (then_right (fault_9 ps) _ r9)))));
        }
      where
        listed : (b : List Part) (p : Part) (a : List Part) (x : Part) (xs : List Part)
            → order_parts (split_order p.target) b ++
            (first_half source_cut target_cut p ∷ second_half source_cut target_cut new p ∷ order_parts
            (split_order p.target) a) ≡ x ∷ xs
            → split_focus source_cut target_cut new u.parts (here b p a) ≡ x ∷ xs
        listed b p a x xs e = e

    by : (f : Focus) → focus u.parts n ≡ f → split_refusal u source_cut target_cut new f ≡ none → Sent u → Sent (v f)
    by nowhere k o h = absurd (true≢false (applies_none 11 true o))
    by (here b p a) k o h =
        let at : u.parts ≡ b ++ (p ∷ a) = focus_here u.parts n b p a k in
        let behind_12 = then_right (applies 12 (is_closed u.opening.can_resegment p)) _ o in
        let behind_13 = then_right (applies 13 (bad_cut p source_cut target_cut)) _ behind_12 in
        let behind_23 = then_right (applies 23 (accent_parted p source_cut target_cut)) _ behind_13 in
        whole b p a at k (applies_none 14 (id_taken u.parts new) behind_23) h

-- An accepted split leaves a valid table
pub split_valid : (t : List ℕ) (n source_cut target_cut new room : ℕ) (r : List ℕ) → Bytes t
    → split t n source_cut target_cut new room ≡ result r → Valid r
split_valid t n source_cut target_cut new room r bt e = accepted_valid t (split_unit (unit t) n source_cut target_cut new) r
    (split_accepted t n source_cut target_cut new room r bt e)
