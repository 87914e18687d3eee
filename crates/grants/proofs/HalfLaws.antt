-- In a valid table the halves of an id that has a complete pair or annotation on a side are those two.
use Prim.Native.Nat.{ℕ, zero, suc, ◌+◌, ◌<◌, ◌≤◌}
use native.Mathlib.Omega.{arith}
use mathlib.Core.Path.{◌≡◌, refl, sym, ap, ◌∙◌, subst}
use mathlib.Core.Logic.{◌⊎◌, inl, inr}
use mathlib.Core.Bool.{Bool, true, false, cond}
use mathlib.Core.List.Memᴰ
use mathlib.Core.List.{List, [], ◌∷◌, ◌++◌, Memᴰ}
use mathlib.Core.Option.{none, some}
use lib.ListN.{length}
use lib.Dec.{eqb}
use borrow.Author.Tests.{eqb-true, eqb-false, eq-eqb}
use Rattle.xliff.specs.Bytes.{'S', keep, gather}
use Rattle.xliff.specs.Item.{Item, Content, Half}
use Rattle.xliff.specs.Unit.{Target, no_target, target, Part, target_items, source_sequence, of_order, target_of_order, targets, target_sequence, order_list, orders}
use Rattle.xliff.specs.Parse.{unit}
use Rattle.xliff.specs.Rules.{half_of_id, fault_5, fault_6, fault_6_to_10}
use Rattle.xliff.specs.Rewrite.{Whole, side_content, side_sequence, find_whole}
use Rattle.xliff.proofs.lists.Tests.{keep_append, gather_append}
use Rattle.xliff.proofs.rules.Orders.{orders_fit, order_fits}
use Rattle.xliff.proofs.rules.Marks.{marks, Shape}
use Rattle.xliff.proofs.rules.Six.{rule_6_counted}
use Rattle.xliff.proofs.rules.Seven.{Good7, rule_7_good}
use Rattle.xliff.proofs.unit.Result.{then_left, then_right, sent}
use Rattle.xliff.proofs.operations.SplitTarget.{fault_5_fits}
use Rattle.xliff.proofs.operations.Rewrite as rewriting
use Rattle.xliff.proofs.operations.Rewrite.{half_bit, halves, two_halves, found, found_two}
use Rattle.grants.specs.Grant.{TwoHalves, BothHalves}

no_half : (i : ℕ) (xs : Content) → halves i xs ≡ 0 → keep (half_of_id i) xs ≡ []
unfolding keep
no_half i [] e = refl
no_half i (x ∷ xs) e = by (half_of_id i x) refl (no_half i xs (omega arith))
  where
    kept : Content
    kept = keep (half_of_id i) xs

    by : (b : Bool) → half_of_id i x ≡ b → kept ≡ [] → cond b (x ∷ kept) kept ≡ []
    by true q h = absurd (let w : half_bit i x ≡ 1 = rw q in let z : ⊥ = omega arith in z)
    by false q h = h

two_kept : (i : ℕ) (xs : Content) (two : rewriting.TwoHalves i xs)
    → keep (half_of_id i) xs ≡ two.opener ∷ two.closer ∷ []
unfolding keep
two_kept i xs two =
    ap (keep h) two.is
    ∙ keep_append h two.before (two.opener ∷ (two.between ++ (two.closer ∷ two.behind)))
    ∙ rw (no_half i two.before two.none_before, two.opens)
    (ap (λ (l : Content). two.opener ∷ l)
    (keep_append h two.between (two.closer ∷ two.behind)
    ∙ rw (no_half i two.between two.none_between, two.closes)
    (ap (λ (l : Content). two.closer ∷ l) (no_half i two.behind two.none_behind))))
  where
    h : Item → Bool
    h = half_of_id i

found_both : {e : ℕ → Half → Bool} (i : ℕ) (xs : Content) (w : Whole) → Shape e (marks i xs)
    → find_whole i xs ≡ some w → keep (half_of_id i) xs ≡ w.start ∷ w.end ∷ []
found_both i xs w s f =
    let two = two_halves i xs s (found_two i xs w f) in
    let same : some w ≡ some (record { start = two.opener; end = two.closer }) = sym f ∙ found i xs two in
    let is : w ≡ record { start = two.opener; end = two.closer } = cc in
    two_kept i xs two ∙ ap (λ (p : Whole). p.start ∷ p.end ∷ []) (sym is)

-- what stands in a list stands in a longer one
mem_left : {x : Item} (xs ys : Content) → Memᴰ x xs → Memᴰ x (xs ++ ys)
mem_left [] ys x'' = elim x'' [ ]
mem_left (y ∷ xs) ys (Memᴰ.head e) = Memᴰ.head e
mem_left (y ∷ xs) ys (Memᴰ.tail m) = Memᴰ.tail (mem_left xs ys m)

mem_right : {x : Item} (xs ys : Content) → Memᴰ x ys → Memᴰ x (xs ++ ys)
mem_right [] ys m = m
mem_right (y ∷ xs) ys m = Memᴰ.tail (mem_right xs ys m)

mem_gather : {x : Item} (f : Part → Content) (b : List Part) (p : Part) (a : List Part) → Memᴰ x (f p)
    → Memᴰ x (gather f (b ++ (p ∷ a)))
unfolding gather
mem_gather f [] p a m = mem_left (f p) (gather f a) m
mem_gather f (q ∷ b) p a m = mem_right (f q) (gather f (b ++ (p ∷ a))) (mem_gather f b p a m)

mem_keep : {x : Item} (f : Item → Bool) (xs : Content) → f x ≡ true → Memᴰ x xs → Memᴰ x (keep f xs)
unfolding keep
mem_keep {x = x} f [] e x3 = elim x3 [ ]
mem_keep {x} f (y ∷ xs) e (Memᴰ.head q) = rw (ap f (sym q) ∙ e) (Memᴰ.head q)
mem_keep {x} f (y ∷ xs) e (Memᴰ.tail m) = by (f y) (mem_keep f xs e m)
  where
    by : (b : Bool) → Memᴰ x (keep f xs) → Memᴰ x (cond b (y ∷ keep f xs) (keep f xs))
    by true h = Memᴰ.tail h
    by false h = h

one_of_two : {x y z : Item} → Memᴰ x (y ∷ z ∷ []) → (x ≡ y) ⊎ (x ≡ z)
one_of_two (Memᴰ.head e) = inl e
one_of_two {y = y} {z = z} (Memᴰ.tail (Memᴰ.tail x9)) = elim x9 [ ]
one_of_two (Memᴰ.tail (Memᴰ.head e)) = inr e

-- the content of an order stands in the target sequence
mem_targets : {x : Item} (ps : List Part) (from n q : ℕ) → from < q → q ≤ from + n → Memᴰ x (target_of_order ps q)
    → Memᴰ x (targets ps from n)
unfolding targets
mem_targets ps from zero q l h m = absurd (let z : ⊥ = omega arith in z)
mem_targets {x} ps from (suc n) q l h m =
    by (eqb q (suc from)) refl (λ below. mem_targets ps (suc from) n q below (omega arith) m)
  where
    by : (b : Bool) → eqb q (suc from) ≡ b → (suc from < q → Memᴰ x (targets ps (suc from) n))
        → Memᴰ x (target_of_order ps (suc from) ++ targets ps (suc from) n)
    by true e later =
        mem_left (target_of_order ps (suc from)) (targets ps (suc from) n)
        (subst (λ (k : ℕ). Memᴰ x (target_of_order ps k)) (eqb-true q (suc from) e) m)
    by false e later =
        let other = eqb-false q (suc from) e in
        mem_right (target_of_order ps (suc from)) (targets ps (suc from) n) (later (omega (arith, other)))

-- what stands in a target of a valid table stands in the target sequence
module _ (b : List Part) (p : Part) (a : List Part) (five : fault_5 (b ++ (p ∷ a)) ≡ none) where
  abbrev ps : List Part
  ps = b ++ (p ∷ a)

  order_in_lem : (q : ℕ) (xs : Content) → p.target ≡ target q xs → (1 ≤ q) × (q ≤ length ps)
  unfolding orders gather order_list
  order_in_lem q xs e =
      let fits = fault_5_fits ps five in
      let here : orders ps ≡ orders b ++ (q ∷ orders a)
      = gather_append (λ p. order_list p.target) b (p ∷ a)
      ∙ ap (λ (g : Target). orders b ++ (order_list g ++ orders a)) e in
      let all_fit = subst (λ (l : List ℕ). orders_fit (length ps) [] l ≡ true) here fits in
      let f = order_fits (length ps) [] (orders b) q (orders a) all_fit in
      (f.low, f.high)

  mem_target : (x : Item) → Memᴰ x (target_items p.target) → Memᴰ x (target_sequence ps)
  unfolding target_items target_sequence of_order target_of_order
  mem_target x m = by p.target refl m
    where
      by : (g : Target) → p.target ≡ g → Memᴰ x (target_items g) → Memᴰ x (target_sequence ps)
      by no_target e k = absurd (Memᴰ.not-nil k)
      by (target q xs) e k =
          let fits = order_in_lem q xs e in
          let there : of_order q p.target ≡ xs = rw (e, eq-eqb q q refl) refl in
          mem_targets ps 0 (length ps) q (omega (arith, fits.0)) (omega (arith, fits.1))
          (mem_gather (λ r. of_order q r.target) b p a (subst (Memᴰ x) (sym there) k))

pub both_halves : BothHalves
unfolding BothHalves side_sequence side_content source_sequence fault_6_to_10
both_halves t side i w b v = by (eqb side 'S') refl
  where
    ps : List Part
    ps = (unit t).parts

    seven : Good7 ps
    seven =
        let rules = (sent t b v).rules in
        rule_7_good ps (rule_6_counted ps (then_left _ _ rules)) (then_left _ _ (then_right (fault_6 ps) _ rules))

    source_stands : (x : Item) (c : List Part) (p : Part) (a : List Part) → ps ≡ c ++ (p ∷ a) → Memᴰ x p.source
        → Memᴰ x (source_sequence ps)
    source_stands x c p a e m =
        subst (λ (l : List Part). Memᴰ x (source_sequence l)) (sym e) (mem_gather (λ p. p.source) c p a m)

    target_stands : (x : Item) (c : List Part) (p : Part) (a : List Part) → ps ≡ c ++ (p ∷ a)
        → Memᴰ x (target_items p.target) → Memᴰ x (target_sequence ps)
    target_stands x c p a e m =
        subst (λ (l : List Part). Memᴰ x (target_sequence l)) (sym e)
        (mem_target c p a (subst (λ (l : List Part). fault_5 l ≡ none) e (sent t b v).rule_5) x m)

    -- a half that stands in the sequence is one of the two that are kept
    of_two : (xs : Content) (x : Item) → keep (half_of_id i) xs ≡ w.start ∷ w.end ∷ [] → Memᴰ x xs
        → half_of_id i x ≡ true → (x ≡ w.start) ⊎ (x ≡ w.end)
    of_two xs x k m h = one_of_two (subst (Memᴰ x) k (mem_keep (half_of_id i) xs h m))

    by : (s : Bool) → eqb side 'S' ≡ s → find_whole i (side_sequence side ps) ≡ some w → TwoHalves ps side i w
    by true e f =
        let two = found_both i (source_sequence ps) w (seven.source_side i) (rw e at f) in
        record {
          both = rw e two;
          either = λ c p a q x m h. of_two (source_sequence ps) x two (source_stands x c p a q (rw e at m)) h;
        }
    by false e f =
        let two = found_both i (target_sequence ps) w (seven.target_side i) (rw e at f) in
        record {
          both = rw e two;
          either = λ c p a q x m h. of_two (target_sequence ps) x two (target_stands x c p a q (rw e at m)) h;
        }
