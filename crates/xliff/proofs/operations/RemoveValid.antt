-- An accepted removal leaves a valid table: 7 and 9 are tried anew by the operation, 5, 6, 8 and 10 are kept.
use borrow.Author.Tests.{not-true}
use Prim.Native.Nat.{ℕ}
use native.Mathlib.Omega.{arith}
use mathlib.Core.Path.{◌≡◌, refl, sym, ap, ap₂, ◌∙◌, subst}
use mathlib.Core.Bool.{Bool, true, false, not, ◌||◌, cond, true≢false}
use mathlib.Core.List.{List, [], ◌∷◌, ◌++◌}
use mathlib.Core.Option.{none}
use lib.Dec.{eqb, ltb}
use lib.ListN.{length, length-append}
use Rattle.xliff.specs.Bytes.{'I', Bytes, among, gather}
use Rattle.xliff.specs.Answer.{applies, ◌then◌, result}
use Rattle.xliff.specs.Item.{Content}
use Rattle.xliff.specs.Unit.{Head, segment, ignorable, Target, no_target, target, Part, XliffUnit, target_items, source_sequence, order_list, orders, with_state}
use Rattle.xliff.specs.Parse.{unit}
use Rattle.xliff.specs.Sequences.{located}
use Rattle.xliff.specs.Rules.{bad_order, bad_8_source, bad_8_target, bad_10_source, bad_10_target, fault_5, fault_6, fault_7, fault_8, fault_9, fault_10, fault_6_to_10}
use Rattle.xliff.specs.Check.{Valid, too_large}
use Rattle.xliff.specs.Focus.{Focus, nowhere, here, focus, with_parts}
use Rattle.xliff.specs.RemoveTarget.{remove_focus, remove_unit, lacks_target, remove_refusal, remove_target}
use Rattle.xliff.proofs.lists.Sum.{sum_append}
use Rattle.xliff.specs.Good.{each_cons, GoodHead, GoodParts}
use Rattle.xliff.proofs.lists.Each.{each_append, each_apart}
use Rattle.xliff.proofs.lists.Tests.{or_right, and_left, and_right, and_both}
use Rattle.xliff.proofs.operations.Sources.{focus_here, source_append}
use Rattle.xliff.proofs.rules.Orders.{orders_fit}
use Rattle.xliff.proofs.operations.SplitTarget.{orders_append, fault_5_fits}
use Rattle.xliff.proofs.operations.Closed.{state_id}
use Rattle.xliff.proofs.rules.Sequences.{clear, rule_8, rule_8_back, rule_10, rule_10_back}
use Rattle.xliff.proofs.unit.Result.{then_left, then_right, then_none, applies_none, of_result_none, operation_result, Sent, sent}
use Rattle.xliff.proofs.unit.Accepted.{Accepted, accepted_valid}
use Rattle.xliff.proofs.operations.SetValid.{rule_5_back, some_part}
use Rattle.xliff.proofs.rules.Six.{starts, source_ids, target_ids, Rule6, rule_6_counted, counted_rule_6}
use Rattle.xliff.proofs.rules.Seven.{starts_target}
use Rattle.xliff.proofs.rules.Place.{taken_out}
use Rattle.xliff.proofs.rules.Out.{out_8, out_10}

-- orders fit beside fewer, and with one of them gone
or-false : (a b c : Bool) → (b ≡ false → c ≡ false) → a || b ≡ false → a || c ≡ false
or-false true b c h e = e
or-false false b c h e = h e

fits_fewer : (n : ℕ) (used used' qs : List ℕ) → ((k : ℕ) → among k used ≡ false → among k used' ≡ false) → orders_fit n used qs ≡ true → orders_fit n used' qs ≡ true
unfolding orders_fit bad_order among
fits_fewer n used used' [] h e = refl
fits_fewer n used used' (q ∷ qs) h e =
    let f : bad_order n used q ≡ false = not-true _ (and_left _ _ e) in
    let g : bad_order n used' q ≡ false = or-false (eqb q 0) (ltb n q || among q used) (ltb n q || among q used') (λ z. or-false (ltb n q) (among q used) (among q used') (h q) z) f in
    and_both (not (bad_order n used' q)) (orders_fit n (q ∷ used') qs) (ap not g)
    (fits_fewer n (q ∷ used) (q ∷ used') qs (λ k z. or-false (eqb k q) (among k used) (among k used') (h k) z) (and_right (not (bad_order n used q)) _ e))

fits_gone : (n : ℕ) (used qs : List ℕ) (q : ℕ) (rs : List ℕ) → orders_fit n used (qs ++ (q ∷ rs)) ≡ true → orders_fit n used (qs ++ rs) ≡ true
unfolding orders_fit among
fits_gone n used [] q rs e = fits_fewer n (q ∷ used) used rs (λ k z. or_right (eqb k q) _ z) (and_right (not (bad_order n used q)) _ e)
fits_gone n used (x ∷ qs) q rs e =
    and_both (not (bad_order n used x)) (orders_fit n (x ∷ used) (qs ++ rs)) (and_left (not (bad_order n used x)) (orders_fit n (x ∷ used) (qs ++ (q ∷ rs))) e)
    (fits_gone n (x ∷ used) qs q rs (and_right (not (bad_order n used x)) _ e))

-- the part without its target
abbrev bared : Part → Part
bared p = record { head = with_state 'I' p.head; source = p.source; target = no_target }

module _ (b : List Part) (p : Part) (a : List Part) (q : ℕ) (c : Content) (target_equals : p.target ≡ target q c) where
  abbrev old : List Part
  old = b ++ (p ∷ a)

  abbrev now : List Part
  now = b ++ (bared p ∷ a)

  remove_5 : fault_5 old ≡ none → fault_5 now ≡ none
  unfolding fault_5 located orders order_list gather
  remove_5 e =
      let shown : orders old ≡ orders b ++ (q ∷ orders a) = orders_append b (p ∷ a) ∙ ap (λ (t : Target). orders b ++ (order_list t ++ orders a)) target_equals in
      let len : length now ≡ length old = length-append b (bared p ∷ a) ∙ sym (length-append b (p ∷ a)) in
      rule_5_back (length now) 3 [] now
      (ap₂ (λ (z : ℕ) (l : List ℕ). orders_fit z [] l) len (orders_append b (bared p ∷ a))
      ∙ fits_gone (length old) [] (orders b) q (orders a) (ap (orders_fit (length old) []) (sym shown) ∙ fault_5_fits old e))

  remove_6 : Rule6 old → Rule6 now
  unfolding target_items
  remove_6 r =
      record {
        source_side = λ i.
            let x = sum_append (source_ids i) b (p ∷ a) in
            let y = sum_append (source_ids i) b (bared p ∷ a) in
            let s = ap (λ (j : ℕ). cond {A = ℕ} (eqb j 0) 0 (cond (eqb j i) 1 0)) (state_id 'I' p.head) in
            let m = r.source_side i in
            omega arith;
        target_side = λ i.
            let x = sum_append (target_ids i) b (p ∷ a) in
            let y = sum_append (target_ids i) b (bared p ∷ a) in
            let s = ap (λ (j : ℕ). cond {A = ℕ} (eqb j 0) 0 (cond (eqb j i) 1 0)) (state_id 'I' p.head) in
            let m = r.target_side i in
            omega arith;
      }

  source_same : source_sequence now ≡ source_sequence old
  unfolding source_sequence gather
  source_same = source_append b (bared p ∷ a) ∙ sym (source_append b (p ∷ a))

  remove_8 : fault_5 old ≡ none → Rule6 old → fault_8 old ≡ none → fault_8 now ≡ none
  remove_8 five six e =
      let (u, v, was, is) = taken_out b p (bared p) a q c target_equals refl five in
      let (k, l) = rule_8 old e in
      rule_8_back now (ap (clear bad_8_source []) source_same ∙ k)
      (ap (clear bad_8_target []) is
      ∙ out_8 u c v (λ i. let x = starts_target i old in let y = six.target_side i in let z = ap (starts i) was in omega arith) (ap (clear bad_8_target []) (sym was) ∙ l))

  remove_10 : fault_5 old ≡ none → fault_10 old ≡ none → fault_10 now ≡ none
  remove_10 five e =
      let (u, v, was, is) = taken_out b p (bared p) a q c target_equals refl five in
      let (k, l) = rule_10 old e in
      rule_10_back now (ap (clear bad_10_source []) source_same ∙ k)
      (ap₂ (λ (s t : Content). clear (bad_10_target s) [] t) source_same is
      ∙ out_10 (source_sequence old) u c v (ap (clear (bad_10_target (source_sequence old)) []) (sym was) ∙ l))

pub initial_good : (h : Head) → GoodHead h → GoodHead (with_state 'I' h)
unfolding with_state among
initial_good (segment f) g = (g.0, refl)
initial_good (ignorable i) g = tt

-- An accepted removal
pub remove_accepted : (t : List ℕ) (n room : ℕ) (r : List ℕ) → Bytes t → remove_target t n room ≡ result r → Accepted t (remove_unit (unit t) n) r
unfolding remove_target remove_unit remove_focus remove_refusal lacks_target with_parts fault_6_to_10 Valid
remove_accepted t n room r bt e =
    let (valid, own, same) = operation_result t _ _ r e in
    let first = then_left (remove_refusal (focus (unit t).parts n)) _ own in
    let rest = then_right (remove_refusal (focus (unit t).parts n)) _ own in
    let small = applies_none 15 (too_large room (remove_unit (unit t) n)) (then_left _ _ rest) in
    let rules = of_result_none _ (then_right (applies 15 (too_large room (remove_unit (unit t) n))) _ rest) in
    let h = sent t bt valid in
    record { was = h; now = by (focus (unit t).parts n) refl first rules h; bytes = same; room = room; fits = small }
  where
    u : XliffUnit
    u = unit t

    v : Focus → XliffUnit
    v f = with_parts u (remove_focus u.parts f)

    whole : (b : List Part) (p : Part) (a : List Part) (q : ℕ) (c : Content) → u.parts ≡ b ++ (p ∷ a) → p.target ≡ target q c
        → (fault_7 (b ++ (bared p ∷ a)) then fault_9 (b ++ (bared p ∷ a))) ≡ none → Sent u → Sent (v (here b p a))
    whole b p a q c at g rules h =
        let ps : List Part = u.parts in
        let old : List Part = b ++ (p ∷ a) in
        let r7 = then_right (fault_6 ps) _ h.rules in
        let r8 = then_right (fault_7 ps) _ r7 in
        let r9 = then_right (fault_8 ps) _ r8 in
        let six : Rule6 old = subst Rule6 at (rule_6_counted ps (then_left _ _ h.rules)) in
        let five : fault_5 old ≡ none = ap fault_5 (sym at) ∙ h.rule_5 in
        let (gb, gp, ga) = each_apart b p a (subst GoodParts at h.good) in
        let (x, xs, shown) = some_part b (bared p) a in
        record {
          letter = h.letter;
          first = x;
          others = xs;
          parts = shown;
          good = each_append b (bared p ∷ a) gb (each_cons (record { head = initial_good p.head gp.head; source = gp.source; target = tt }) ga);
          rule_5 = remove_5 b p a q c g five;
          rules =
              then_none _ _ (counted_rule_6 (b ++ (bared p ∷ a)) (remove_6 b p a q c g six))
              (then_none _ _ (then_left _ _ rules)
              (then_none _ _ (remove_8 b p a q c g five six (ap fault_8 (sym at) ∙ then_left _ _ r8))
              (then_none _ _ (then_right (fault_7 (b ++ (bared p ∷ a))) _ rules) (remove_10 b p a q c g five (ap fault_10 (sym at) ∙ then_right (fault_9 ps) _ r9)))));
        }

    by : (f : Focus) → focus u.parts n ≡ f → remove_refusal f ≡ none → (fault_7 (v f).parts then fault_9 (v f).parts) ≡ none → Sent u → Sent (v f)
    by nowhere k o rules h = absurd (true≢false (applies_none 11 true o))
    by (here b p a) k o rules h = pick p.target refl (applies_none 20 (lacks_target p.target) o)
      where
        pick : (g : Target) → p.target ≡ g → lacks_target g ≡ false → Sent (v (here b p a))
        pick no_target e z = absurd (true≢false z)
        pick (target q c) e z = whole b p a q c (focus_here u.parts n b p a k) e rules h

-- An accepted removal leaves a valid table
pub remove_valid : (t : List ℕ) (n room : ℕ) (r : List ℕ) → Bytes t → remove_target t n room ≡ result r → Valid r
remove_valid t n room r bt e = accepted_valid t (remove_unit (unit t) n) r (remove_accepted t n room r bt e)
