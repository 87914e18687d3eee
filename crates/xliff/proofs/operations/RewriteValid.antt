-- An accepted rewrite leaves a valid table.
use borrow.Author.Tests.{not-false}
use Prim.Native.Nat.{ℕ}
use mathlib.Core.Path.{Path, ◌≡◌, refl, sym, ap, ap₂, ◌∙◌, subst}
use mathlib.Core.Bool.{Bool, true, false, not, ◌||◌, cond, true≢false}
use mathlib.Core.List.{List, [], ◌∷◌, map}
use mathlib.Core.Option.{Option, none, some}
use lib.Dec.{eqb}
use Rattle.xliff.specs.Bytes.{'P', 'S', 'T', Bytes, any, among}
use Rattle.xliff.specs.Answer.{applies, result}
use Rattle.xliff.specs.Item.{Item, Content, Half, Form, form_P, form_S}
use Rattle.xliff.specs.Unit.{Target, Part, XliffUnit, target_items, source_sequence, target_sequence}
use Rattle.xliff.specs.Parse.{unit}
use Rattle.xliff.specs.Rules.{half_of_id, fault_6, fault_7, fault_8, fault_9, fault_6_to_10}
use Rattle.xliff.specs.Check.{Valid, too_large}
use Rattle.xliff.specs.Focus.{with_parts}
use Rattle.xliff.specs.Rewrite.{form_of, rewrite_item, rewrite_target, rewrite_part, rewrite_unit, side_content, side_sequence, Whole, find_whole, are_partners, unfit_letter, to_P_refusal, already, pair_refusal, rewrite_refusal, rewrite}
use Rattle.xliff.specs.Good.{each_nil, each_cons, GoodIn, GoodPart, GoodParts}
use Rattle.xliff.proofs.lists.Each.{each_map}
use Rattle.xliff.proofs.lists.Tests.{or_left, or_right, map_same}
use Rattle.xliff.proofs.operations.Sources.{rewrite_source}
use Rattle.xliff.proofs.operations.JoinTarget.{rewrite_target_sequence}
use Rattle.xliff.proofs.rules.Flat.{rule_9_kept, rule_10_kept}
use Rattle.xliff.proofs.unit.Result.{then_left, then_right, then_none, applies_none, operation_result, Sent, sent}
use Rattle.xliff.proofs.unit.Accepted.{Accepted, accepted_valid}
use Rattle.xliff.proofs.rules.Marks.{marks, Shape, waits}
use Rattle.xliff.proofs.rules.Six.{Rule6, rule_6_counted}
use Rattle.xliff.proofs.rules.Total.{total_source, total_target}
use Rattle.xliff.proofs.rules.Seven.{bare_sequence, Good7, rule_7_good}
use Rattle.xliff.proofs.rules.Starts.{good_if}
use Rattle.xliff.proofs.operations.Rewrite.{two_halves, found, found_two}
use Rattle.xliff.proofs.operations.RewriteSides.{on_both, stay, map_stay, items_of, sources_balanced, targets_balanced, Asked, Kept, stays, rewrites, both_kept, target_unchanged, good_target}

-- what acceptance says of the pair
some_same : {A : Type 0} {a b : A} → Path (Option A) (some a) (some b) → a ≡ b
some_same e = cc

make_asked : {e : ℕ → Half → Bool} (i : ℕ) (w : Form) (content : Part → Content) (xs : Content) (ps : List Part) (p : Whole)
    → Shape e (marks i xs) → find_whole i xs ≡ some p
    → already w p.start ≡ false → (w ≡ form_P → unfit_letter p ≡ false)
    → (w ≡ form_P → any (λ q. are_partners i (map (rewrite_item i w) (content q))) ps ≡ true)
    → Asked i w content xs ps
unfolding already unfit_letter
make_asked i w content xs ps p sh e a u n =
    let two = two_halves i xs sh (found_two i xs p e) in
    let same : record { start = two.opener; end = two.closer } ≡ p = some_same (sym (found i xs two) ∙ e) in
    record {
      two = two;
      letter = λ k. not-false _ (ap unfit_letter same ∙ u k);
      plain = λ k. sym (ap (λ (g : Form). already g two.opener) k) ∙ ap (λ (z : Whole). already w z.start) same ∙ a;
      partners = n;
    }

any_map : (P Q : Part → Bool) (g : Part → Part) → ((p : Part) → P (g p) ≡ Q p) → (ps : List Part) → any P (map g ps) ≡ any Q ps
unfolding any
any_map P Q g h [] = refl
any_map P Q g h (p ∷ ps) = ap₂ ◌||◌ (h p) (any_map P Q g h ps)

-- the part of a side
part_S : (side : ℕ) (f : Item → Item) → eqb side 'S' ≡ true → (p : Part) → rewrite_part side f p ≡ on_both f stay p
unfolding rewrite_part
part_S side f e p = rw e (ap (λ (t : Target). record { head = p.head; source = map f p.source; target = t })
    (sym (target_unchanged stay (λ x. refl) p.target)))

part_T : (side : ℕ) (f : Item → Item) → eqb side 'S' ≡ false → (p : Part) → rewrite_part side f p ≡ on_both stay f p
unfolding rewrite_part
part_T side f e p = rw e
    (ap (λ (l : Content). record { head = p.head; source = l; target = rewrite_target f p.target }) (sym (map_stay p.source)))

content_S : (side i : ℕ) (f : Item → Item) → eqb side 'S' ≡ true → (p : Part)
    → are_partners i (side_content side (rewrite_part side f p)) ≡ are_partners i (map f p.source)
unfolding side_content
content_S side i f e p = rw e (ap (λ (q : Part). are_partners i q.source) (part_S side f e p))

content_T : (side i : ℕ) (f : Item → Item) → eqb side 'S' ≡ false → (p : Part)
    → are_partners i (side_content side (rewrite_part side f p)) ≡ are_partners i (map f (target_items p.target))
unfolding side_content
content_T side i f e p = rw e
    (ap (λ (q : Part). are_partners i (target_items q.target)) (part_T side f e p) ∙ ap (are_partners i) (items_of f p.target))

-- the refusals of a pair that did not apply
record Tried (u : XliffUnit) (side i : ℕ) (w : Form) (p : Whole) : Type 0 where
  pub not_already : already w p.start ≡ false
  pub letter : w ≡ form_P → unfit_letter p ≡ false
  pub partners : w ≡ form_P → any (λ q. are_partners i (side_content side q)) (map (rewrite_part side (rewrite_item i w)) u.parts) ≡ true

tried : (u : XliffUnit) (side i : ℕ) (w : Form) (p : Whole) → pair_refusal u side i w (some p) ≡ none → Tried u side i w p
unfolding pair_refusal to_P_refusal rewrite_unit with_parts
tried u side i form_S p e =
    record { not_already = applies_none 20 _ (then_left _ _ e); letter = λ k. absurd (form_differ k); partners = λ k. absurd (form_differ k) }
  where
    is_S : Form → Bool
    is_S form_S = true
    is_S form_P = false

    form_differ : form_S ≡ form_P → ⊥
    form_differ k = true≢false (ap is_S k)
tried u side i form_P p e =
    let o = applies_none 21 _ (then_right (applies 20 (already form_P p.start)) _ e) in
    record {
      not_already = applies_none 20 _ (then_left _ _ e);
      letter = λ k. or_right (not (any (λ q. are_partners i (side_content side q)) (map (rewrite_part side (rewrite_item i form_P)) u.parts))) _ o;
      partners = λ k. not-false _ (or_left _ _ o);
    }

-- good as bytes
pub good_item : (i : ℕ) (w : Form) (x : Item) → GoodIn x → GoodIn (rewrite_item i w x)
unfolding rewrite_item
good_item i w x g = good_if w (half_of_id i x) x g

pub good_parts : (side i : ℕ) (w : Form) (ps : List Part) → GoodParts ps → GoodParts (map (rewrite_part side (rewrite_item i w)) ps)
unfolding rewrite_part
good_parts side i w [] each_nil = each_nil
good_parts side i w (p ∷ ps) (each_cons g h) = each_cons (by (eqb side 'S')) (good_parts side i w ps h)
  where
    by : (b : Bool) → GoodPart (cond b (record { head = p.head; source = map (rewrite_item i w) p.source; target = p.target })
        (record { head = p.head; source = p.source; target = rewrite_target (rewrite_item i w) p.target }))
    by true = record { head = g.head; source = each_map (rewrite_item i w) (good_item i w) p.source g.source; target = g.target }
    by false = record { head = g.head; source = g.source; target = good_target (rewrite_item i w) (good_item i w) p.target g.target }

not_found : (u : XliffUnit) (side i : ℕ) (w : Form) → pair_refusal u side i w none ≡ none → ⊥
unfolding pair_refusal
not_found u side i w e = true≢false (applies_none 20 true e)

-- An accepted rewrite
pub rewrite_accepted : (t : List ℕ) (side i w room : ℕ) (r : List ℕ) → Bytes t → rewrite t side i w room ≡ result r
    → Accepted t (rewrite_unit (unit t) side i (form_of w)) r
unfolding rewrite rewrite_refusal rewrite_unit with_parts fault_6_to_10 side_sequence Valid
rewrite_accepted t side i w room r bt e =
    let (valid, own, same) = operation_result t _ _ r e in
    let first = then_left (rewrite_refusal (unit t) side i w) _ own in
    let small = applies_none 15 (too_large room (rewrite_unit (unit t) side i (form_of w))) (then_right (rewrite_refusal (unit t) side i w) _ own) in
    let pair = then_right (applies 2 (not (among side ('S' ∷ 'T' ∷ [])) || not (among w ('P' ∷ 'S' ∷ [])))) _ first in
    let h = sent t bt valid in
    record { was = h; now = by (find_whole i (side_sequence side (unit t).parts)) refl pair h; bytes = same; room = room; fits = small }
  where
    u : XliffUnit
    u = unit t

    kept : (p : Whole) → find_whole i (side_sequence side u.parts) ≡ some p → Tried u side i (form_of w) p → Sent u → (b : Bool) → eqb side 'S' ≡ b
        → Kept (map (rewrite_part side (rewrite_item i (form_of w))) u.parts)
    kept p found_it t h true s =
        let f : Item → Item = rewrite_item i (form_of w) in
        let ps : List Part = u.parts in
        let r7 = then_right (fault_6 ps) _ h.rules in
        let six : Rule6 ps = rule_6_counted ps (then_left _ _ h.rules) in
        let seven : Good7 ps = rule_7_good ps six (then_left _ _ r7) in
        let at : find_whole i (source_sequence ps) ≡ some p = rw s at found_it in
        let asked = make_asked i (form_of w) (λ q. q.source) (source_sequence ps) ps p (seven.source_side i) at t.not_already t.letter
        (λ k. sym (any_map (λ q. are_partners i (side_content side q)) (λ q. are_partners i (map f q.source)) (rewrite_part side f)
        (content_S side i f s) ps) ∙ t.partners k) in
        subst Kept (sym (map_same (rewrite_part side f) (on_both f stay) (part_S side f s) ps))
        (both_kept f stay ps h.rule_5 six (then_left _ _ (then_right (fault_7 ps) _ r7))
        (rewrites i (form_of w) (λ j. waits [] j) (λ q. q.source) (source_sequence ps) ps seven.source_side
        (sources_balanced ps seven.bal) (λ m. total_source m ps) asked)
        (stays (λ j. waits (bare_sequence ps) j) (λ q. target_items q.target) (target_sequence ps) ps seven.target_side
        (targets_balanced ps seven.bal)))
    kept p found_it t h false s =
        let f : Item → Item = rewrite_item i (form_of w) in
        let ps : List Part = u.parts in
        let r7 = then_right (fault_6 ps) _ h.rules in
        let six : Rule6 ps = rule_6_counted ps (then_left _ _ h.rules) in
        let seven : Good7 ps = rule_7_good ps six (then_left _ _ r7) in
        let at : find_whole i (target_sequence ps) ≡ some p = rw s at found_it in
        let asked = make_asked i (form_of w) (λ q. target_items q.target) (target_sequence ps) ps p (seven.target_side i) at
        t.not_already t.letter
        (λ k. sym (any_map (λ q. are_partners i (side_content side q)) (λ q. are_partners i (map f (target_items q.target)))
        (rewrite_part side f) (content_T side i f s) ps) ∙ t.partners k) in
        subst Kept (sym (map_same (rewrite_part side f) (on_both stay f) (part_T side f s) ps))
        (both_kept stay f ps h.rule_5 six (then_left _ _ (then_right (fault_7 ps) _ r7))
        (stays (λ j. waits [] j) (λ q. q.source) (source_sequence ps) ps seven.source_side (sources_balanced ps seven.bal))
        (rewrites i (form_of w) (λ j. waits (bare_sequence ps) j) (λ q. target_items q.target) (target_sequence ps) ps
        seven.target_side (targets_balanced ps seven.bal)
        (λ m. total_target m ps h.rule_5) asked))

    by : (o : Option Whole) → find_whole i (side_sequence side u.parts) ≡ o → pair_refusal u side i (form_of w) o ≡ none
        → Sent u → Sent (rewrite_unit u side i (form_of w))
    by none q o h = absurd (not_found u side i (form_of w) o)
    by (some p) q o h =
        let ps : List Part = u.parts in
        let qs : List Part = map (rewrite_part side (rewrite_item i (form_of w))) u.parts in
        let k = kept p q (tried u side i (form_of w) p o) h (eqb side 'S') refl in
        let r9 = then_right (fault_8 ps) _ (then_right (fault_7 ps) _ (then_right (fault_6 ps) _ h.rules)) in
        let source_same = rewrite_source side i (form_of w) ps in
        let target_same = rewrite_target_sequence side i (form_of w) ps in
        record {
          letter = h.letter;
          first = rewrite_part side (rewrite_item i (form_of w)) h.first;
          others = map (rewrite_part side (rewrite_item i (form_of w))) h.others;
          parts = ap (map (rewrite_part side (rewrite_item i (form_of w)))) h.parts;
          good = good_parts side i (form_of w) u.parts h.good;
          rule_5 = k.five;
          rules =
              then_none _ _ k.six (then_none _ _ k.seven (then_none _ _ k.eight
              (then_none _ _ (rule_9_kept ps qs source_same target_same (then_left _ _ r9))
              (rule_10_kept ps qs source_same target_same (then_right (fault_9 ps) _ r9)))));
        }

-- An accepted rewrite leaves a valid table
pub rewrite_valid : (t : List ℕ) (side i w room : ℕ) (r : List ℕ) → Bytes t → rewrite t side i w room ≡ result r → Valid r
rewrite_valid t side i w room r bt e = accepted_valid t (rewrite_unit (unit t) side i (form_of w)) r (rewrite_accepted t side i w room r bt e)
