-- A rewrite on one side of a unit: the contents that hold the pair stay balanced, the other side stays, and the rules 5
-- to 8 are kept.
use Prim.Native.Nat.{ℕ, zero, suc, ◌+◌, ◌≤◌}
use native.Mathlib.Omega.{arith}
use mathlib.Core.Path.{◌≡◌, refl, sym, ap, ap₂, ◌∙◌, subst}
use mathlib.Core.Bool.{Bool, true, false, ◌||◌, cond, false≢true}
use mathlib.Core.List.{List, [], ◌∷◌, ◌++◌, map}
use mathlib.Core.Option.{none, some}
use lib.Dec.{eqb}
use lib.ListN.{length, length-map}
use Rattle.xliff.specs.Bytes.{any, gather}
use Rattle.xliff.specs.Item.{Item, Content, Half, Form, form_P, form_S, flat, is_form_P, fields}
use Rattle.xliff.specs.Unit.{Target, no_target, target, Part, has_target, target_items, source_sequence, of_order, target_of_order, targets, target_sequence, order_list, orders}
use Rattle.xliff.specs.Sequences.{located}
use Rattle.xliff.specs.Rules.{fault_5, fault_6, fault_7, fault_8}
use Rattle.xliff.specs.Rewrite.{rewrite_item, rewrite_target, are_partners}
use Rattle.xliff.proofs.lists.Sum.{sum, sum_cong, sum_map}
use Rattle.xliff.specs.Good.{Each, each_nil, each_cons, GoodIn, GoodTarget}
use Rattle.xliff.proofs.lists.Each.{each_map, each_weaken}
use Rattle.xliff.proofs.lists.Tests.{map-append, map_stays}
use Rattle.xliff.proofs.operations.Sources.{flat_rewrite}
use Rattle.xliff.proofs.rules.Orders.{orders_fit}
use Rattle.xliff.proofs.operations.SplitTarget.{fault_5_fits}
use Rattle.xliff.proofs.operations.SetValid.{rule_5_back}
use Rattle.xliff.proofs.rules.Balance.{Balanced}
use Rattle.xliff.proofs.rules.Marks.{marks, Shape, Shape-mono, waits, any_mk}
use Rattle.xliff.proofs.rules.Six.{starts, part_bit, source_ids, target_ids, Rule6, counted_rule_6}
use Rattle.xliff.proofs.rules.Seven.{bare, bare_sequence, AllBalanced, good_rule_7}
use Rattle.xliff.proofs.rules.Eight.{letter_fits, Eased, eased_refl, eased_8}
use Rattle.xliff.proofs.rules.Starts.{starts_map}
use Rattle.xliff.proofs.operations.Rewrite.{half_bit, halves, P-bit, untouched, shape_rewritten, waits_rewritten, TwoHalves, just_two, none_P, eased_rewrite, balanced_rewritten, balanced_to_S}

-- a part with both its contents changed item by item; a rewrite changes one side and leaves the other
abbrev pub on_both : (Item → Item) → (Item → Item) → Part → Part
on_both f g p = record { head = p.head; source = map f p.source; target = rewrite_target g p.target }

abbrev pub stay : Item → Item
stay x = x

pub map_stay : (xs : Content) → map stay xs ≡ xs
map_stay xs = map_stays stay (λ x. refl) xs

-- its target changed item by item: to no effect, or so that it stays good
pub target_unchanged : (f : Item → Item) → ((x : Item) → f x ≡ x) → (t : Target) → rewrite_target f t ≡ t
unfolding rewrite_target
target_unchanged f same no_target = refl
target_unchanged f same (target q xs) = ap (target q) (map_stays f same xs)

pub good_target : (f : Item → Item) → ((x : Item) → GoodIn x → GoodIn (f x)) → (t : Target) → GoodTarget t → GoodTarget (rewrite_target f t)
unfolding rewrite_target
good_target f good no_target g = tt
good_target f good (target q xs) g = each_map f good xs g

-- CONTENTS of one side: those that hold the halves stay balanced, and no other changes
module _ (i : ℕ) (content : Part → Content) where
  abbrev turned : Part → Content
  turned p = map (rewrite_item i form_P) (content p)

  none_turned : (ps : List Part) → Each (λ p. Balanced (content p)) ps → sum (λ p. halves i (content p)) ps ≡ 0 → Each (λ p. Balanced (turned p)) ps
  none_turned [] each_nil e = each_nil
  none_turned (p ∷ ps) (each_cons b h) e = each_cons (subst Balanced (sym (untouched i form_P (content p) (omega arith))) b)
      (none_turned ps h (omega arith))

  some_turned : (ps : List Part) → Each (λ p. Balanced (content p)) ps → sum (λ p. halves i (content p)) ps ≤ 2
      → sum (λ p. sum (P-bit i) (content p)) ps ≡ 0
      → any (λ p. are_partners i (turned p)) ps ≡ true → Each (λ p. Balanced (turned p)) ps × (2 ≤ sum (λ p. halves i (content p)) ps)
  unfolding any
  some_turned [] each_nil most z e = absurd (false≢true e)
  some_turned (p ∷ ps) (each_cons b h) most z e = by (are_partners i (turned p)) refl e (some_turned ps h (omega arith) (omega arith))
    where
      by : (c : Bool) → are_partners i (turned p) ≡ c → c || any (λ q. are_partners i (turned q)) ps ≡ true
          → (any (λ q. are_partners i (turned q)) ps ≡ true → Each (λ q. Balanced (turned q)) ps × (2 ≤ sum (λ q. halves i (content q)) ps))
          → Each (λ q. Balanced (turned q)) (p ∷ ps) × (2 ≤ halves i (content p) + sum (λ q. halves i (content q)) ps)
      by true q k ih =
          let (bal, two) = balanced_rewritten i (content p) b (omega arith) (omega arith) q in
          (each_cons bal (none_turned ps h (omega arith)), omega arith)
      by false q k ih =
          let (rest, two) = ih k in
          (each_cons (subst Balanced (sym (untouched i form_P (content p) (omega arith))) b) rest, omega arith)

pub sources_balanced : (ps : List Part) → AllBalanced ps → Each (λ p. Balanced p.source) ps
sources_balanced [] each_nil = each_nil
sources_balanced (p ∷ ps) (each_cons b h) = each_cons b.source (sources_balanced ps h)

pub targets_balanced : (ps : List Part) → AllBalanced ps → Each (λ p. Balanced (target_items p.target)) ps
targets_balanced [] each_nil = each_nil
targets_balanced (p ∷ ps) (each_cons b h) = each_cons b.target (targets_balanced ps h)

-- what a rewrite asks of the sequence of its side
pub record Asked (i : ℕ) (w : Form) (content : Part → Content) (xs : Content) (ps : List Part) : Type 0 where
  pub two : TwoHalves i xs
  pub letter : w ≡ form_P → letter_fits (some (fields two.opener)) (fields two.closer) ≡ true
  pub plain : w ≡ form_P → is_form_P two.opener ≡ false
  pub partners : w ≡ form_P → any (λ p. are_partners i (map (rewrite_item i w) (content p))) ps ≡ true

-- the contents of the side, rewritten, are balanced
side_balanced : (i : ℕ) (w : Form) (content : Part → Content) (xs : Content) (ps : List Part) → Asked i w content xs ps
    → ((f : Item → ℕ) → sum f xs ≡ sum (λ p. sum f (content p)) ps)
    → Each (λ p. Balanced (content p)) ps → Each (λ p. Balanced (map (rewrite_item i w) (content p))) ps
side_balanced i form_S content xs ps a t h = each_weaken (λ p b. balanced_to_S i (content p) b) ps h
side_balanced i form_P content xs ps a t h =
    let n = just_two i xs a.two in
    let m = t (half_bit i) in
    (some_turned i content ps h (omega arith) (sym (t (P-bit i)) ∙ none_P i xs a.two (a.plain refl)) (a.partners refl)).0

-- what is kept
pub record Kept (qs : List Part) : Type 0 where
  pub five : fault_5 qs ≡ none
  pub six : fault_6 qs ≡ none
  pub seven : fault_7 qs ≡ none
  pub eight : fault_8 qs ≡ none

pub same_orders : (g : Part → Part) → ((p : Part) → order_list (g p).target ≡ order_list p.target) → (ps : List Part)
    → orders (map g ps) ≡ orders ps
unfolding orders gather
same_orders g h [] = refl
same_orders g h (p ∷ ps) = ap₂ ◌++◌ (h p) (same_orders g h ps)

five_kept : (g : Part → Part) → ((p : Part) → order_list (g p).target ≡ order_list p.target) → (ps : List Part) → fault_5 ps ≡ none
    → fault_5 (map g ps) ≡ none
unfolding fault_5 located
five_kept g h ps e =
    rule_5_back (length (map g ps)) 3 [] (map g ps)
    (ap₂ (λ (n : ℕ) (l : List ℕ). orders_fit n [] l) (length-map ps g) (same_orders g h ps) ∙ fault_5_fits ps e)

-- the sequences, orders and contents of the changed parts
pub items_of : (g : Item → Item) (t : Target) → target_items (rewrite_target g t) ≡ map g (target_items t)
unfolding target_items rewrite_target
items_of g no_target = refl
items_of g (target q xs) = refl

module _ (f g : Item → Item) where
  pub source_is : (ps : List Part) → source_sequence (map (on_both f g) ps) ≡ map f (source_sequence ps)
  unfolding source_sequence gather
  source_is [] = refl
  source_is (p ∷ ps) = ap (λ (z : Content). map f p.source ++ z) (source_is ps) ∙ sym (map-append f p.source (source_sequence ps))

  of_order_is : (k : ℕ) (t : Target) → of_order k (rewrite_target g t) ≡ map g (of_order k t)
  unfolding of_order rewrite_target
  of_order_is k no_target = refl
  of_order_is k (target q xs) = by (eqb k q)
    where
      by : (b : Bool) → cond b (map g xs) [] ≡ map g (cond b xs [])
      by true = refl
      by false = refl

  order_is : (ps : List Part) (k : ℕ) → target_of_order (map (on_both f g) ps) k ≡ map g (target_of_order ps k)
  unfolding target_of_order gather
  order_is [] k = refl
  order_is (p ∷ ps) k = ap₂ ◌++◌ (of_order_is k p.target) (order_is ps k) ∙ sym (map-append g (of_order k p.target) (target_of_order ps k))

  targets_are : (ps : List Part) (q n : ℕ) → targets (map (on_both f g) ps) q n ≡ map g (targets ps q n)
  unfolding targets
  targets_are ps q zero = refl
  targets_are ps q (suc n) = ap₂ ◌++◌ (order_is ps (suc q)) (targets_are ps (suc q) n)
      ∙ sym (map-append g (target_of_order ps (suc q)) (targets ps (suc q) n))

  pub target_is : (ps : List Part) → target_sequence (map (on_both f g) ps) ≡ map g (target_sequence ps)
  unfolding target_sequence
  target_is ps = ap (targets (map (on_both f g) ps) 0) (length-map ps (on_both f g)) ∙ targets_are ps 0 (length ps)

  has_same : (t : Target) → has_target (rewrite_target g t) ≡ has_target t
  unfolding has_target rewrite_target
  has_same no_target = refl
  has_same (target q xs) = refl

  pub order_same : (t : Target) → order_list (rewrite_target g t) ≡ order_list t
  unfolding order_list rewrite_target
  order_same no_target = refl
  order_same (target q xs) = refl

  bare_is : (ps : List Part) → bare_sequence (map (on_both f g) ps) ≡ map f (bare_sequence ps)
  unfolding bare_sequence gather bare
  bare_is [] = refl
  bare_is (p ∷ ps) =
      ap₂ ◌++◌ (ap (λ (b : Bool). cond b [] (map f p.source)) (has_same p.target) ∙ by (has_target p.target)) (bare_is ps)
      ∙ sym (map-append f (bare p) (bare_sequence ps))
    where
      by : (b : Bool) → cond b [] (map f p.source) ≡ map f (cond b [] p.source)
      by true = refl
      by false = refl

  both_balanced : (ps : List Part) → Each (λ p. Balanced (map f p.source)) ps
      → Each (λ p. Balanced (map g (target_items p.target))) ps → AllBalanced (map (on_both f g) ps)
  both_balanced [] each_nil each_nil = each_nil
  both_balanced (p ∷ ps) (each_cons b h) (each_cons c k) =
      each_cons (record { source = b; target = subst Balanced (sym (items_of g p.target)) c }) (both_balanced ps h k)

-- what is asked of a change of one sequence (xs, of the contents named): no form matters to flattening, to rule 8, to
-- what waits; shapes and balance stay
pub record Keeps (f : Item → Item) (e : ℕ → ℕ → Half → Bool) (content : Part → Content) (xs : Content) (ps : List Part) : Type 0 where
  pub flat_same : (x : Item) → flat (f x) ≡ flat x
  pub eased : Eased [] xs (map f xs)
  pub shapes : (j : ℕ) → Shape (e j) (marks j (map f xs))
  pub blind : (j : ℕ) (ys : Content) (c : ℕ) (s : Half) → any_mk c s (marks j (map f ys)) ≡ any_mk c s (marks j ys)
  pub balanced : Each (λ p. Balanced (map f (content p))) ps

pub stays : (e : ℕ → ℕ → Half → Bool) (content : Part → Content) (xs : Content) (ps : List Part) → ((j : ℕ) → Shape (e j) (marks j xs))
    → Each (λ p. Balanced (content p)) ps
    → Keeps stay e content xs ps
stays e content xs ps h b =
    record {
      flat_same = λ x. refl;
      eased = subst (Eased [] xs) (sym (map_stay xs)) (eased_refl [] xs);
      shapes = λ j. subst (λ (l : Content). Shape (e j) (marks j l)) (sym (map_stay xs)) (h j);
      blind = λ j ys c s. ap (λ (l : Content). any_mk c s (marks j l)) (map_stay ys);
      balanced = each_weaken (λ p k. subst Balanced (sym (map_stay (content p))) k) ps b;
    }

pub rewrites : (i : ℕ) (w : Form) (e : ℕ → ℕ → Half → Bool) (content : Part → Content) (xs : Content) (ps : List Part)
    → ((j : ℕ) → Shape (e j) (marks j xs))
    → Each (λ p. Balanced (content p)) ps → ((m : Item → ℕ) → sum m xs ≡ sum (λ p. sum m (content p)) ps) → Asked i w content xs ps
    → Keeps (rewrite_item i w) e content xs ps
rewrites i w e content xs ps h b t a =
    let n = just_two i xs a.two in
    record {
      flat_same = flat_rewrite i w;
      eased = eased_rewrite i w xs a.two a.letter;
      shapes = shape_rewritten e i w xs (omega arith) h;
      blind = λ j ys c s. waits_rewritten i j w ys c s;
      balanced = side_balanced i w content xs ps a t b;
    }

-- the rules 5 to 8 of the changed parts
pub both_kept : (f g : Item → Item) (ps : List Part) → fault_5 ps ≡ none → Rule6 ps → fault_8 ps ≡ none
    → Keeps f (λ j. waits [] j) (λ p. p.source) (source_sequence ps) ps
    → Keeps g (λ j. waits (bare_sequence ps) j) (λ p. target_items p.target) (target_sequence ps) ps
    → Kept (map (on_both f g) ps)
both_kept f g ps five six eight s t =
    let qs : List Part = map (on_both f g) ps in
    record {
      five = five_kept (on_both f g) (λ p. order_same f g p.target) ps five;
      six = counted_rule_6 qs
          (record {
            source_side = λ j. let a = six.source_side j in let b = sum_map (source_ids j) (on_both f g) ps
                ∙ sum_cong (λ p. source_ids j (on_both f g p)) (source_ids j)
                (λ p. ap (λ (z : ℕ). part_bit j p + z) (starts_map j f s.flat_same p.source)) ps in omega arith;
            target_side = λ j. let a = six.target_side j in let b = sum_map (target_ids j) (on_both f g) ps
                ∙ sum_cong (λ p. target_ids j (on_both f g p)) (target_ids j)
                (λ p. ap (λ (z : ℕ). part_bit j p + z)
                (ap (starts j) (items_of g p.target) ∙ starts_map j g t.flat_same (target_items p.target))) ps in omega arith;
          });
      seven = good_rule_7 qs
          (record {
            source_side = λ j. subst (λ (l : Content). Shape (waits [] j) (marks j l)) (sym (source_is f g ps)) (s.shapes j);
            target_side = λ j. Shape-mono
                (λ c h k. ap (λ (l : Content). any_mk c h (marks j l)) (bare_is f g ps) ∙ s.blind j (bare_sequence ps) c h ∙ k)
                (subst (λ (l : Content). Shape (waits (bare_sequence ps) j) (marks j l)) (sym (target_is f g ps)) (t.shapes j));
            bal = both_balanced f g ps s.balanced t.balanced;
          });
      eight = eased_8 ps qs (subst (Eased [] (source_sequence ps)) (sym (source_is f g ps)) s.eased)
          (subst (Eased [] (target_sequence ps)) (sym (target_is f g ps)) t.eased) eight;
    }
