-- Laws of set target and remove target: an accepted setting leaves a valid table.
use Prim.Native.Nat.{ℕ, suc, ◌+◌, ◌<◌, ◌≤◌}
use mathlib.Core.Path.{◌≡◌, refl, sym, ap, ap₂, ◌∙◌, subst}
use mathlib.Core.Bool.{Bool, true, false, not, ◌&&◌, ◌||◌, cond, true≢false, false≢true}
use mathlib.Core.List.{List, [], ◌∷◌, ◌++◌}
use mathlib.Core.Option.{none}
use native.Mathlib.Omega.{arith}
use lib.ListN.{length, length-append}
use lib.Dec.{eqb, ltb}
use borrow.Author.Tests.{eq-eqb, ne_eqb, le-ltb, not-false}
use Rattle.xliff.specs.Bytes.{Bytes, among, gather}
use Rattle.xliff.specs.Answer.{refusal, applies, result}
use Rattle.xliff.specs.Item.{Content}
use Rattle.xliff.specs.Unit.{Head, segment, ignorable, Target, no_target, target, Part, XliffUnit, order_list, orders, with_state}
use Rattle.xliff.specs.Parse.{unit, content, content_fault}
use Rattle.xliff.specs.Sequences.{located_from, located, part_size, order_at}
use Rattle.xliff.specs.Rules.{bad_order, first_bad_order, fault_5, fault_6_to_10}
use Rattle.xliff.specs.Check.{Valid, too_large}
use Rattle.xliff.specs.Focus.{Focus, nowhere, here, focus, with_parts}
use Rattle.xliff.specs.SetTarget.{state_fits, lowest_unused, new_order, set_focus, set_unit, set_refusal, set_target}
use Rattle.xliff.specs.Good.{each_cons, GoodHead, GoodParts}
use Rattle.xliff.proofs.lists.Each.{each_append, each_apart}
use Rattle.xliff.proofs.lists.Tests.{or_left, or_right, and_right, or_both}
use Rattle.xliff.proofs.operations.Sources.{focus_here, focus_at}
use Rattle.xliff.proofs.rules.Orders.{orders_fit}
use Rattle.xliff.proofs.operations.SplitTarget.{orders_append, fault_5_fits}
use Rattle.xliff.proofs.rules.Unused.{lowest_fits}
use Rattle.xliff.proofs.unit.Valid.{content_good}
use Rattle.xliff.proofs.unit.Result.{then_left, then_right, applies_none, of_result_none, operation_result, Sent, sent}
use Rattle.xliff.proofs.unit.Accepted.{Accepted, accepted_valid}

-- rule 5 back from the list of orders
pub rule_5_back : (n at : ℕ) (used : List ℕ) (ps : List Part) → orders_fit n used (orders ps) ≡ true → first_bad_order n used (located_from at ps) ≡ none
unfolding first_bad_order located_from orders order_list gather orders_fit
rule_5_back n at used [] e = refl
rule_5_back n at used (p ∷ ps) e = by p.target refl e (λ used'. rule_5_back n (at + part_size p) used' ps)
  where
    IH : Type 0
    IH = (used' : List ℕ) → orders_fit n used' (orders ps) ≡ true → first_bad_order n used' (located_from (at + part_size p) ps) ≡ none

    more : (q : ℕ) (b : Bool) → not b && orders_fit n (q ∷ used) (orders ps) ≡ true → IH
        → cond b (refusal 5 (order_at (record { part = p; at = at }))) (first_bad_order n (q ∷ used) (located_from (at + part_size p) ps)) ≡ none
    more q true k ih = absurd (false≢true k)
    more q false k ih = ih (q ∷ used) k

    by : (g : Target) → p.target ≡ g → orders_fit n used (order_list g ++ orders ps) ≡ true → IH → first_bad_order n used (located_from at (p ∷ ps)) ≡ none
    by no_target g k ih = rw (g, first_bad_order) (ih used k)
    by (target q xs) g k ih = rw (g, first_bad_order) (more q (bad_order n used q) k ih)

-- a head with a fitting state is good
pub state_good : (st : ℕ) (h : Head) → state_fits h st ≡ true → GoodHead h → GoodHead (with_state st h)
unfolding state_fits with_state
state_good st (segment f) e g = (g.0, e)
state_good st (ignorable i) e g = tt

-- whether orders fit depends on which of them are used
pub fits_ext : (n : ℕ) (used used' qs : List ℕ) → ((k : ℕ) → among k qs ≡ true → among k used' ≡ among k used) → orders_fit n used qs ≡ true → orders_fit n used' qs ≡ true
unfolding orders_fit bad_order among
fits_ext n used used' [] h e = refl
fits_ext n used used' (q ∷ qs) h e =
    let same : among q used' ≡ among q used = h q (rw (self q)) in
    let rest : orders_fit n (q ∷ used') qs ≡ true = fits_ext n (q ∷ used) (q ∷ used') qs (λ k m. ap (λ (b : Bool). eqb k q || b) (h k (later k m))) (and_right (not (bad_order n used q)) _ e) in
    ap₂ (λ (a b : Bool). not (eqb q 0 || (ltb n q || a)) && b) same (rest ∙ sym (and_right (not (bad_order n used q)) _ e)) ∙ e
  where
    self : (q : ℕ) → eqb q q ≡ true
    self q = eq-eqb q q refl

    later : (k : ℕ) → among k qs ≡ true → eqb k q || among k qs ≡ true
    later k m = by (eqb k q)
      where
        by : (b : Bool) → b || among k qs ≡ true
        by true = refl
        by false = m

-- where one more order fits
pub insert_fits : (n : ℕ) (used qs : List ℕ) (o : ℕ) (rs : List ℕ) → 1 ≤ o → o ≤ n → among o used ≡ false → among o qs ≡ false → among o rs ≡ false
    → orders_fit n used (qs ++ rs) ≡ true → orders_fit n used (qs ++ (o ∷ rs)) ≡ true
unfolding orders_fit bad_order among
insert_fits n used [] o rs l h u q r e =
    rw (ne_eqb o 0 (λ z. omega arith), le-ltb n o h, u) (fits_ext n used (o ∷ used) rs (λ k m. ap (λ (b : Bool). b || among k used) (ne_eqb k o (λ z. differ k m z))) e)
  where
    differ : (k : ℕ) → among k rs ≡ true → k ≡ o → ⊥
    differ k m z = true≢false (sym m ∙ ap (λ (i : ℕ). among i rs) z ∙ r)
insert_fits n used (x ∷ qs) o rs l h u q r e =
    let rest : orders_fit n (x ∷ used) (qs ++ (o ∷ rs)) ≡ true
    = insert_fits n (x ∷ used) qs o rs l h (or_both (eqb o x) (among o used) (or_left _ _ q) u) (or_right (eqb o x) _ q) r (and_right (not (bad_order n used x)) _ e) in
    ap (λ (b : Bool). not (bad_order n used x) && b) (rest ∙ sym (and_right (not (bad_order n used x)) _ e)) ∙ e

-- a list that leaves an element out is shorter than the parts
pub orders_length : (ps : List Part) → length (orders ps) ≤ length ps
unfolding orders order_list gather
orders_length [] = omega arith
orders_length (p ∷ ps) = by p.target (orders_length ps)
  where
    by : (g : Target) → length (orders ps) ≤ length ps → length (order_list g ++ orders ps) ≤ suc (length ps)
    by no_target h = omega arith
    by (target q xs) h = omega arith

pub among_append : (k : ℕ) (l m : List ℕ) → among k (l ++ m) ≡ among k l || among k m
unfolding among
among_append k [] m = refl
among_append k (x ∷ l) m = by (eqb k x) (among_append k l m)
  where
    by : (b : Bool) → among k (l ++ m) ≡ among k l || among k m → b || among k (l ++ m) ≡ b || among k l || among k m
    by true e = refl
    by false e = e

-- Setting a target keeps 5
module _ (b : List Part) (p : Part) (a : List Part) (fits : orders_fit (length (b ++ (p ∷ a))) [] (orders (b ++ (p ∷ a))) ≡ true) where
  abbrev all : List Part
  all = b ++ (p ∷ a)

  set_order : (n : ℕ) → 1 ≤ n → n ≤ length all → (g : Target) → p.target ≡ g → orders_fit (length all) [] (orders b ++ (new_order all n g ∷ orders a)) ≡ true
  unfolding new_order orders order_list gather among
  set_order n l h (target q xs) e =
      ap (orders_fit (length all) []) (sym (orders_append b (p ∷ a) ∙ ap (λ (t : Target). orders b ++ (order_list t ++ orders a)) e)) ∙ fits
  set_order n l h no_target e =
      let shown : orders all ≡ orders b ++ orders a = orders_append b (p ∷ a) ∙ ap (λ (t : Target). orders b ++ (order_list t ++ orders a)) e in
      let few : length (orders all) < length all
      = omega (arith, ap length shown, length-append (orders b) (orders a), length-append b (p ∷ a), orders_length b, orders_length a) in
      by (among n (orders all)) refl shown few
    where
      put : (o : ℕ) → 1 ≤ o → o ≤ length all → among o (orders all) ≡ false → orders all ≡ orders b ++ orders a → orders_fit (length all) [] (orders b ++ (o ∷ orders a)) ≡ true
      put o low high not_in shown =
          let both : among o (orders b) || among o (orders a) ≡ false = sym (among_append o (orders b) (orders a)) ∙ ap (among o) (sym shown) ∙ not_in in
          insert_fits (length all) [] (orders b) o (orders a) low high (nothing o) (or_left _ _ both) (or_right (among o (orders b)) _ both)
          (ap (orders_fit (length all) []) (sym shown) ∙ fits)
        where
          nothing : (o : ℕ) → among o [] ≡ false
          nothing o = refl

      by : (c : Bool) → among n (orders all) ≡ c → orders all ≡ orders b ++ orders a → length (orders all) < length all
          → orders_fit (length all) [] (orders b ++ (cond c (lowest_unused 1 (length all) (orders all)) n ∷ orders a)) ≡ true
      by false k shown few = put n l h k shown
      by true k shown few = let f = lowest_fits (length all) (orders all) few in put (lowest_unused 1 (length all) (orders all)) f.1 f.2 f.0 shown

-- the part that is set
abbrev set_part : List Part → ℕ → ℕ → Content → Part → Part
set_part ps n st new p = record { head = with_state st p.head; source = p.source; target = target (new_order ps n p.target) new }

set_5 : (n st : ℕ) (new : Content) (b : List Part) (p : Part) (a : List Part) → n ≡ suc (length b) → fault_5 (b ++ (p ∷ a)) ≡ none
    → fault_5 (b ++ (set_part (b ++ (p ∷ a)) n st new p ∷ a)) ≡ none
unfolding fault_5 located orders order_list gather
set_5 n st new b p a k e =
    let q : Part = set_part (b ++ (p ∷ a)) n st new p in
    let len : length (b ++ (q ∷ a)) ≡ length (b ++ (p ∷ a)) = length-append b (q ∷ a) ∙ sym (length-append b (p ∷ a)) in
    rule_5_back (length (b ++ (q ∷ a))) 3 [] (b ++ (q ∷ a))
    (ap₂ (λ (z : ℕ) (l : List ℕ). orders_fit z [] l) len (orders_append b (q ∷ a))
    ∙ set_order b p a (fault_5_fits (b ++ (p ∷ a)) e) n (omega arith) (omega (arith, length-append b (p ∷ a))) p.target refl)

pub some_part : (b : List Part) (q : Part) (a : List Part) → (x : Part) × (xs : List Part) × (b ++ (q ∷ a) ≡ x ∷ xs)
some_part [] q a = (q, a, refl)
some_part (x ∷ b) q a = (x, b ++ (q ∷ a), refl)

-- An accepted setting
pub set_accepted : (t : List ℕ) (n st : ℕ) (s : List ℕ) (room : ℕ) (r : List ℕ) → Bytes t → Bytes s → set_target t n st s room ≡ result r → Accepted t (set_unit (unit t) n st (content s)) r
unfolding set_target set_unit set_focus set_refusal with_parts Valid
set_accepted t n st s room r bt bs e =
    let (valid, own, same) = operation_result t _ _ r e in
    let first = then_left (set_refusal st s (focus (unit t).parts n)) _ own in
    let rest = then_right (set_refusal st s (focus (unit t).parts n)) _ own in
    let small = applies_none 15 (too_large room (set_unit (unit t) n st (content s))) (then_left _ _ rest) in
    let rules = of_result_none _ (then_right (applies 15 (too_large room (set_unit (unit t) n st (content s)))) _ rest) in
    let h = sent t bt valid in
    record { was = h; now = by (focus (unit t).parts n) refl first rules h; bytes = same; room = room; fits = small }
  where
    u : XliffUnit
    u = unit t

    v : Focus → XliffUnit
    v f = with_parts u (set_focus u.parts n st (content s) f)

    by : (f : Focus) → focus u.parts n ≡ f → set_refusal st s f ≡ none → fault_6_to_10 (v f).parts ≡ none → Sent u → Sent (v f)
    by nowhere k o rules h = absurd (true≢false (applies_none 11 true o))
    by (here b p a) k o rules h =
        let at : u.parts ≡ b ++ (p ∷ a) = focus_here u.parts n b p a k in
        let q : Part = set_part u.parts n st (content s) p in
        let fits : state_fits p.head st ≡ true = not-false _ (applies_none 2 _ (then_left _ _ o)) in
        let cf : content_fault s ≡ none = then_left _ _ (then_right (applies 2 (not (state_fits p.head st))) _ o) in
        let (gb, gp, ga) = each_apart b p a (subst GoodParts at h.good) in
        let (x, xs, shown) = some_part b q a in
        record {
          letter = h.letter;
          first = x;
          others = xs;
          parts = shown;
          good = each_append b (q ∷ a) gb (each_cons (record { head = state_good st p.head fits gp.head; source = gp.source; target = content_good s bs cf }) ga);
          rule_5 = subst (λ (l : List Part). fault_5 (b ++ (set_part l n st (content s) p ∷ a)) ≡ none) (sym at)
              (set_5 n st (content s) b p a (focus_at u.parts n b p a k) (ap fault_5 (sym at) ∙ h.rule_5));
          rules = rules;
        }

-- An accepted setting leaves a valid table
pub set_valid : (t : List ℕ) (n st : ℕ) (s : List ℕ) (room : ℕ) (r : List ℕ) → Bytes t → Bytes s → set_target t n st s room ≡ result r → Valid r
set_valid t n st s room r bt bs e = accepted_valid t (set_unit (unit t) n st (content s)) r (set_accepted t n st s room r bt bs e)
