-- RULE 7, given rule 6, is this: for every id the halves in a sequence have a shape, and the marks of pc and mrk of
-- every content are balanced.
use borrow.Author.Tests.{not-true}
use Prim.Native.Nat.{ℕ, zero, suc, ◌+◌, ◌≤◌}
use native.Mathlib.Omega.{arith}
use mathlib.Core.Path.{◌≡◌, refl, sym, ap, ap₂, ◌∙◌, subst}
use mathlib.Core.Bool.{Bool, true, false, not, ◌&&◌, cond, false≢true}
use mathlib.Core.List.{List, [], ◌∷◌, ◌++◌, map, reverse_aux, append-nil}
use mathlib.Core.Option.{none}
use lib.ListN.{length}
use lib.Dec.{eqb}
use Rattle.xliff.specs.Bytes.{any, gather}
use Rattle.xliff.specs.Item.{Item, Content, start, end, text, character, standalone, isolated, pair, annotation_start, annotation_end, id_of, is_start, is_start_half, is_half, is_form_P, class, half}
use Rattle.xliff.specs.Unit.{Target, no_target, target, Part, has_target, target_items, source_sequence, of_order, target_of_order, targets, target_sequence}
use Rattle.xliff.specs.Sequences.{Located, located_from, located, part_size, source_at, target_at, Placed, placed_from, placed_source, placed_target, placed_source_sequence, placed_target_sequence, placed_contents, blamed, first_of}
use Rattle.xliff.specs.Rules.{starts_id, half_of_id, lone_P, lone_S, may_be_lone, lone_in_target, with_partner, waiting, fault_7}
use Rattle.xliff.proofs.lists.Sum.{bit, sum, sum_append, sum_le}
use Rattle.xliff.specs.Good.{Each, each_nil, each_cons}
use Rattle.xliff.proofs.lists.Tests.{and_left, and_right}
use Rattle.xliff.proofs.rules.Sequences.{clear, blamed_clear, clear_blamed, first_of_none, append_nil_left, append_nil_right, items_placed, items_source, items_target, clear_cong, clear_drop}
use Rattle.xliff.proofs.rules.Stack.{r_nil, Bal}
use Rattle.xliff.proofs.rules.Balance.{Balanced, clear_balanced, balanced_clear}
use Rattle.xliff.proofs.rules.Marks.{Mk, mk, mk_of, marks, marks_cons, marks_append, Shape, waits, any_mk, clear_marks, shapes_clear, pmk, opens, shape_from, Bal-id, Bal-two}
use Rattle.xliff.proofs.rules.Total.{total_target_most}
use Rattle.xliff.proofs.rules.Six.{start_bit, starts, source_ids, target_ids, Rule6, items_of_target}

-- the sources of the parts without target
unfoldable pub bare : Part → Content
bare p = cond (has_target p.target) [] p.source

unfoldable pub bare_sequence : List Part → Content
bare_sequence ps = gather bare ps

pub record BalancedPart (p : Part) : Type 0 where
  pub source : Balanced p.source
  pub target : Balanced (target_items p.target)

abbrev pub AllBalanced : List Part → Type 0
AllBalanced ps = Each BalancedPart ps

pub record Good7 (ps : List Part) : Type 0 where
  pub source_side : (i : ℕ) → Shape (waits [] i) (marks i (source_sequence ps))
  pub target_side : (i : ℕ) → Shape (waits (bare_sequence ps) i) (marks i (target_sequence ps))
  pub bal : AllBalanced ps

-- One start of an id at most, by rule 6
pub start_half_start : (x : Item) → is_start_half x ≡ true → is_start x ≡ true
unfolding half class
start_half_start (text c) e = absurd (false≢true e)
start_half_start (character c) e = absurd (false≢true e)
start_half_start (standalone f) e = absurd (false≢true e)
start_half_start (isolated h f) e = absurd (false≢true e)
start_half_start (pair start w f) e = refl
start_half_start (pair end w f) e = absurd (false≢true e)
start_half_start (annotation_start w i t) e = refl
start_half_start (annotation_end w i) e = absurd (false≢true e)

opens_append : (a b : List Mk) → opens (a ++ b) ≡ opens a + opens b
opens_append [] b = omega arith
opens_append (m ∷ a) b = let h = opens_append a b in omega arith

opens_one : (i : ℕ) (x : Item) → opens (mk_of i x) ≤ start_bit i x
unfolding half_of_id starts_id
opens_one i x = by (is_half x) (eqb (id_of x) i) (is_start_half x) refl
  where
    by : (h b s : Bool) → is_start_half x ≡ s → opens (cond (h && b) (mk (class x) (is_form_P x) (cond s start end) ∷ []) []) ≤ bit (is_start x && b)
    by true true true e = rw (start_half_start x e) (omega arith)
    by true true false e = omega arith
    by true false s e = omega arith
    by false b s e = omega arith

pub opens_starts : (i : ℕ) (xs : Content) → opens (marks i xs) ≤ starts i xs
unfolding marks gather
opens_starts i [] = omega arith
opens_starts i (x ∷ xs) = let a = opens_one i x in let b = opens_starts i xs in let c = opens_append (mk_of i x) (marks i xs) in omega arith

pub starts_source : (i : ℕ) (ps : List Part) → starts i (source_sequence ps) ≤ sum (source_ids i) ps
unfolding source_sequence gather
starts_source i [] = omega arith
starts_source i (p ∷ ps) = let a = sum_append (start_bit i) p.source (source_sequence ps) in let b = starts_source i ps in omega arith

pub starts_target : (i : ℕ) (ps : List Part) → starts i (target_sequence ps) ≤ sum (target_ids i) ps
unfolding target_sequence
starts_target i ps =
    let a = total_target_most (start_bit i) ps in
    let b = sum_le (λ (p : Part). starts i (target_items p.target)) (target_ids i) (λ p. omega arith) ps in
    omega arith

-- balanced contents in a row
abbrev BalId : ℕ → Content → Type 0
BalId i xs = Bal (map (pmk i) (marks i xs))

none_run : (i : ℕ) → BalId i []
unfolding marks gather
none_run i = r_nil

source_run : (i : ℕ) (ps : List Part) → AllBalanced ps → BalId i (source_sequence ps)
unfolding source_sequence gather
source_run i [] each_nil = none_run i
source_run i (p ∷ ps) (each_cons b h) = Bal-two i p.source (source_sequence ps) (Bal-id i p.source b.source) (source_run i ps h)

of_order_run : (i q : ℕ) (g : Target) → Balanced (target_items g) → BalId i (of_order q g)
unfolding of_order target_items
of_order_run i q no_target b = none_run i
of_order_run i q (target r xs) b = by (eqb q r)
  where
    by : (c : Bool) → BalId i (cond c xs [])
    by true = Bal-id i xs b
    by false = none_run i

slot_run : (i q : ℕ) (ps : List Part) → AllBalanced ps → BalId i (target_of_order ps q)
unfolding target_of_order gather
slot_run i q [] each_nil = none_run i
slot_run i q (p ∷ ps) (each_cons b h) = Bal-two i (of_order q p.target) (target_of_order ps q) (of_order_run i q p.target b.target) (slot_run i q ps h)

target_run : (i q n : ℕ) (ps : List Part) → AllBalanced ps → BalId i (targets ps q n)
unfolding targets
target_run i q zero ps h = none_run i
target_run i q (suc n) ps h = Bal-two i (target_of_order ps (suc q)) (targets ps (suc q) n) (slot_run i (suc q) ps h) (target_run i (suc q) n ps h)

target_sequence_run : (i : ℕ) (ps : List Part) → AllBalanced ps → BalId i (target_sequence ps)
unfolding target_sequence
target_sequence_run i ps b = target_run i 0 (length ps) ps b

-- contents of fault-7
contents_balanced : (at : ℕ) (ps : List Part) → gather (blamed lone_P []) (placed_contents (located_from at ps)) ≡ [] → AllBalanced ps
unfolding placed_contents located_from gather placed_source
contents_balanced at [] e = each_nil
contents_balanced at (p ∷ ps) e =
    let l : Located = record { part = p; at = at } in
    let s : List Placed = placed_from (source_at l) [] p.source in
    let t : List Placed = placed_target (target_at l) p.target in
    let a : blamed lone_P [] s ≡ [] = append_nil_left _ _ e in
    let r = append_nil_right (blamed lone_P [] s) _ e in
    let b : blamed lone_P [] t ≡ [] = append_nil_left _ _ r in
    each_cons
    (record {
      source = clear_balanced p.source (ap (clear lone_P []) (sym (items_placed (source_at l) [] p.source)) ∙ clear_blamed lone_P [] s a);
      target = clear_balanced (target_items p.target) (ap (clear lone_P []) (sym (items_of_target (target_at l) p.target)) ∙ clear_blamed lone_P [] t b);
    })
    (contents_balanced (at + part_size p) ps (append_nil_right (blamed lone_P [] t) _ r))

balanced_contents : (at : ℕ) (ps : List Part) → AllBalanced ps → gather (blamed lone_P []) (placed_contents (located_from at ps)) ≡ []
unfolding placed_contents located_from gather placed_source
balanced_contents at [] each_nil = refl
balanced_contents at (p ∷ ps) (each_cons b h) =
    let l : Located = record { part = p; at = at } in
    ap₂ ◌++◌ (blamed_clear lone_P [] (placed_from (source_at l) [] p.source) (ap (clear lone_P []) (items_placed (source_at l) [] p.source) ∙ balanced_clear p.source b.source))
    (ap₂ ◌++◌ (blamed_clear lone_P [] (placed_target (target_at l) p.target) (ap (clear lone_P []) (items_of_target (target_at l) p.target)
    ∙ balanced_clear (target_items p.target) b.target))
    (balanced_contents (at + part_size p) ps h))

-- with nothing that waits, no half may be alone
none_waits : (b : Content) (x : Item) (a : Content) → lone_in_target [] b x a ≡ lone_S b x a
unfolding lone_in_target may_be_lone any
none_waits b x a = by (not (any (half_of_id (id_of x)) b)) (not (any (half_of_id (id_of x)) a)) (lone_S b x a)
  where
    by : (u v l : Bool) → l && not (u && (v && false)) ≡ l
    by true true true = refl
    by true false true = refl
    by false v true = refl
    by u v false = refl

-- what waits, where each source half has its partner: the halves of the bare sequence

no_mark : (i : ℕ) (x : Item) → is_half x ≡ false → mk_of i x ≡ []
unfolding half_of_id
no_mark i x e = rw e

marks_with_partner : (i : ℕ) (earlier later seen xs : Content) → clear lone_P seen xs ≡ true → clear lone_S (seen ++ earlier) (xs ++ later) ≡ true
    → marks i (with_partner earlier later seen xs) ≡ marks i xs
unfolding with_partner clear marks gather
marks_with_partner i earlier later seen [] p s = refl
marks_with_partner i earlier later seen (x ∷ xs) p s =
    let a : lone_P seen x xs ≡ false = not-true _ (and_left _ _ p) in
    let b : lone_S (seen ++ earlier) x (xs ++ later) ≡ false = not-true _ (and_left _ _ s) in
    let ih = marks_with_partner i earlier later (x ∷ seen) xs (and_right (not (lone_P seen x xs)) _ p) (and_right (not (lone_S (seen ++ earlier) x (xs ++ later))) _ s) in
    rw (a, b)
    (marks_append i (cond (is_half x && true) (x ∷ []) []) (with_partner earlier later (x ∷ seen) xs)
    ∙ ap₂ ◌++◌ (mine (is_half x) refl) ih ∙ sym (marks_cons i x xs))
  where
    mine : (h : Bool) → is_half x ≡ h → marks i (cond (h && true) (x ∷ []) []) ≡ mk_of i x
    mine true e = marks_cons i x [] ∙ append-nil (mk_of i x)
    mine false e = sym (no_mark i x e)

pub marks_waiting : (i : ℕ) (earlier : Content) (ps : List Part) → AllBalanced ps → clear lone_S earlier (source_sequence ps) ≡ true → marks i (waiting earlier ps) ≡ marks i (bare_sequence ps)
unfolding waiting bare_sequence gather source_sequence bare
marks_waiting i earlier [] each_nil s = refl
marks_waiting i earlier (p ∷ ps) (each_cons b h) s =
    marks_append i _ (waiting (reverse_aux p.source earlier) ps)
    ∙ ap₂ ◌++◌ (by (has_target p.target)) (marks_waiting i (reverse_aux p.source earlier) ps h (clear_drop lone_S earlier p.source (source_sequence ps) s))
    ∙ sym (marks_append i (bare p) (bare_sequence ps))
  where
    by : (t : Bool) → marks i (cond t [] (with_partner earlier (source_sequence ps) [] p.source)) ≡ marks i (cond t [] p.source)
    by true = refl
    by false = marks_with_partner i earlier (source_sequence ps) [] p.source (balanced_clear p.source b.source) s

-- THE CHARACTERISATION
three_nil : (a b c : List ℕ) → a ++ b ++ c ≡ [] → (a ≡ []) × (b ≡ []) × (c ≡ [])
three_nil a b c e = let f = append_nil_left (a ++ b) c e in (append_nil_left a b f, append_nil_right a b f, append_nil_right (a ++ b) c e)

pub rule_7_good : (ps : List Part) → Rule6 ps → fault_7 ps ≡ none → Good7 ps
unfolding fault_7 located marks gather
rule_7_good ps r e =
    let (a, b, c) = three_nil _ _ _ (first_of_none 7 _ e) in
    let bal = contents_balanced 3 ps a in
    let s : clear lone_S [] (source_sequence ps) ≡ true = ap (clear lone_S []) (sym (items_source 3 ps)) ∙ clear_blamed lone_S [] (placed_source_sequence (located_from 3 ps)) b in
    let s₀ : clear (lone_in_target []) [] (source_sequence ps) ≡ true = clear_cong (lone_in_target []) lone_S none_waits [] (source_sequence ps) ∙ s in
    let t : clear (lone_in_target (waiting [] ps)) [] (target_sequence ps) ≡ true
    = ap (clear (lone_in_target (waiting [] ps)) []) (sym (items_target 3 ps)) ∙ clear_blamed (lone_in_target (waiting [] ps)) [] (placed_target_sequence (located_from 3 ps)) c in
    record {
      source_side = λ i. shape_from (waits [] i) i (marks i (source_sequence ps)) (source_run i ps bal)
          (let x = opens_starts i (source_sequence ps) in let y = starts_source i ps in let z = r.source_side i in omega arith)
          (clear_marks [] i [] (source_sequence ps) s₀);
      target_side = λ i. subst (λ (l : List Mk). Shape (λ c s. any_mk c s l) (marks i (target_sequence ps))) (marks_waiting i [] ps bal s)
          (shape_from (waits (waiting [] ps) i) i (marks i (target_sequence ps)) (target_sequence_run i ps bal)
          (let x = opens_starts i (target_sequence ps) in let y = starts_target i ps in let z = r.target_side i in omega arith)
          (clear_marks (waiting [] ps) i [] (target_sequence ps) t));
      bal = bal;
    }

pub good_rule_7 : (ps : List Part) → Good7 ps → fault_7 ps ≡ none
unfolding fault_7 located first_of
good_rule_7 ps g =
    let s₀ : clear (lone_in_target []) [] (source_sequence ps) ≡ true = shapes_clear [] [] (source_sequence ps) g.source_side in
    let s : clear lone_S [] (source_sequence ps) ≡ true = sym (clear_cong (lone_in_target []) lone_S none_waits [] (source_sequence ps)) ∙ s₀ in
    let t : clear (lone_in_target (waiting [] ps)) [] (target_sequence ps) ≡ true
    = shapes_clear (waiting [] ps) [] (target_sequence ps)
    (λ i. subst (λ (l : List Mk). Shape (λ c h. any_mk c h l) (marks i (target_sequence ps))) (sym (marks_waiting i [] ps g.bal s)) (g.target_side i)) in
    ap (first_of 7)
    (ap₂ ◌++◌ (ap₂ ◌++◌ (balanced_contents 3 ps g.bal) (blamed_clear lone_S [] (placed_source_sequence (located_from 3 ps)) (ap (clear lone_S []) (items_source 3 ps) ∙ s)))
    (blamed_clear (lone_in_target (waiting [] ps)) [] (placed_target_sequence (located_from 3 ps)) (ap (clear (lone_in_target (waiting [] ps)) []) (items_target 3 ps) ∙ t)))
