-- Rule 6, counted: of every id there is one part or source start at most, and one part or target start at most.
use Prim.Native.Nat.{ℕ, zero, suc, ◌+◌, ◌≤◌}
use native.Mathlib.Omega.{arith}
use mathlib.Core.Path.{◌≡◌, refl, sym, ap, subst}
use mathlib.Core.Bool.{Bool, true, false, not, ◌&&◌, ◌||◌, cond, true≢false, false≢true}
use mathlib.Core.List.{List, [], ◌∷◌, ◌++◌}
use mathlib.Core.Logic.{◌⊎◌, inl, inr}
use mathlib.Core.Option.{none}
use lib.Dec.{eqb}
use borrow.Author.Tests.{eqb-true, eq-eqb, not-true}
use Rattle.xliff.specs.Bytes.{any, gather}
use Rattle.xliff.specs.Answer.{refusal}
use Rattle.xliff.specs.Item.{Item, Content, id_of, is_start}
use Rattle.xliff.specs.Unit.{Target, no_target, target, Part, head_id, target_items}
use Rattle.xliff.specs.Sequences.{Located, located_from, located, part_size, source_at, target_at, Placed, placed_from, placed_source, placed_target, items}
use Rattle.xliff.specs.Rules.{Owner, of_part, of_source, of_target, Named, start_name, part_name, names, may_share, clashes, first_clash, fault_6, starts_id}
use Rattle.xliff.proofs.lists.Sum.{bit, sum, sum_append}
use Rattle.xliff.proofs.lists.Tests.{none_some, and_left, and_right, or_left, or_right}
use Rattle.xliff.proofs.rules.Sequences.{items_placed}

-- how many starts of a content have the id i; whether a part has it
abbrev pub start_bit : ℕ → Item → ℕ
start_bit i x = bit (starts_id i x)

abbrev pub starts : ℕ → Content → ℕ
starts i xs = sum (start_bit i) xs

abbrev pub part_bit : ℕ → Part → ℕ
part_bit i p = cond (eqb (head_id p.head) 0) 0 (bit (eqb (head_id p.head) i))

abbrev pub source_ids : ℕ → Part → ℕ
source_ids i p = part_bit i p + starts i p.source

abbrev pub target_ids : ℕ → Part → ℕ
target_ids i p = part_bit i p + starts i (target_items p.target)

pub record Rule6 (ps : List Part) : Type 0 where
  pub source_side : (i : ℕ) → sum (source_ids i) ps ≤ 1
  pub target_side : (i : ℕ) → sum (target_ids i) ps ≤ 1

-- the owners that share no id: parts and source starts (true), parts and target starts (false)
abbrev counts : Bool → Owner → ℕ
counts w of_part = 1
counts true of_source = 1
counts true of_target = 0
counts false of_source = 0
counts false of_target = 1

abbrev one : Bool → ℕ → Named → ℕ
one w i x = cond (eqb x.name i) (counts w x.owner) 0

abbrev num : Bool → ℕ → List Named → ℕ
num w i l = sum (one w i) l

-- what shares an id with a counted owner is not counted
sharer : (w : Bool) (a b : Owner) → may_share a b ≡ true → counts w a ≡ 0 ⊎ counts w b ≡ 0
unfolding may_share
sharer w of_part b e = absurd (false≢true e)
sharer w of_source of_part e = absurd (false≢true e)
sharer w of_source of_source e = absurd (false≢true e)
sharer true of_source of_target e = inr refl
sharer false of_source of_target e = inl refl
sharer w of_target of_part e = absurd (false≢true e)
sharer true of_target of_source e = inl refl
sharer false of_target of_source e = inr refl
sharer w of_target of_target e = absurd (false≢true e)

-- and of two that may not share one is counted with the other
clasher : (a b : Owner) → may_share a b ≡ false → ((counts true a ≡ 1) × (counts true b ≡ 1)) ⊎ ((counts false a ≡ 1) × (counts false b ≡ 1))
unfolding may_share
clasher of_part of_part e = inl (refl, refl)
clasher of_part of_source e = inl (refl, refl)
clasher of_part of_target e = inr (refl, refl)
clasher of_source of_part e = inl (refl, refl)
clasher of_source of_source e = inl (refl, refl)
clasher of_source of_target e = absurd (true≢false e)
clasher of_target of_part e = inr (refl, refl)
clasher of_target of_source e = absurd (true≢false e)
clasher of_target of_target e = inr (refl, refl)

low : (w : Bool) (a : Owner) → counts w a ≤ 1
low w of_part = omega arith
low true of_source = omega arith
low true of_target = omega arith
low false of_source = omega arith
low false of_target = omega arith

apart : (w : Bool) (x : Named) (met : List Named) → any (clashes x) met ≡ false → counts w x.owner ≡ 1 → num w x.name met ≡ 0
unfolding any clashes
apart w x [] e c = refl
apart w x (y ∷ met) e c =
    let ih = apart w x met (or_right (clashes x y) _ e) c in
    let z : one w x.name y ≡ 0 = by (eqb y.name x.name) refl in
    omega arith
  where
    shared : (b : Bool) → may_share x.owner y.owner ≡ b → not b ≡ false → counts w y.owner ≡ 0
    shared false q k = absurd (true≢false k)
    shared true q k = pick (sharer w x.owner y.owner q)
      where
        pick : counts w x.owner ≡ 0 ⊎ counts w y.owner ≡ 0 → counts w y.owner ≡ 0
        pick (inl z) = absurd (let y : ⊥ = omega arith in y)
        pick (inr z) = z

    by : (b : Bool) → eqb y.name x.name ≡ b → cond b (counts w y.owner) 0 ≡ 0
    by true q =
        let h : eqb x.name y.name && not (may_share x.owner y.owner) ≡ false = or_left (clashes x y) _ e in
        shared (may_share x.owner y.owner) refl (rw (eq-eqb x.name y.name (sym (eqb-true _ _ q))) at h)
    by false q = refl

no_clash_count : (w : Bool) (i : ℕ) (met xs : List Named) → first_clash met xs ≡ none → num w i met ≤ 1 → num w i met + num w i xs ≤ 1
unfolding first_clash
no_clash_count w i met [] e h = omega arith
no_clash_count w i met (x ∷ xs) e h = by (any (clashes x) met) refl e (no_clash_count w i (x ∷ met) xs)
  where
    more : any (clashes x) met ≡ false → one w i x + num w i met ≤ 1
    more q = pick (eqb x.name i) refl
      where
        zero_or : (c : ℕ) → c ≤ 1 → (c ≡ 1 → num w i met ≡ 0) → c + num w i met ≤ 1
        zero_or zero l f = omega arith
        zero_or (suc zero) l f = let z = f refl in omega arith
        zero_or (suc (suc c)) l f = absurd (let z : ⊥ = omega arith in z)

        pick : (b : Bool) → eqb x.name i ≡ b → cond b (counts w x.owner) 0 + num w i met ≤ 1
        pick true k = zero_or (counts w x.owner) (low w x.owner) (λ c. subst (λ (j : ℕ). num w j met ≡ 0) (eqb-true _ _ k) (apart w x met q c))
        pick false k = omega arith

    by : (b : Bool) → any (clashes x) met ≡ b → cond b (refusal 6 x.at) (first_clash (x ∷ met) xs) ≡ none
        → (first_clash (x ∷ met) xs ≡ none → one w i x + num w i met ≤ 1 → one w i x + num w i met + num w i xs ≤ 1)
        → num w i met + (one w i x + num w i xs) ≤ 1
    by true q k ih = absurd (none_some (sym k))
    by false q k ih = let z = ih k (more q) in omega arith

found : (x : Named) (met : List Named) → any (clashes x) met ≡ true
    → ((counts true x.owner ≡ 1) × (1 ≤ num true x.name met)) ⊎ ((counts false x.owner ≡ 1) × (1 ≤ num false x.name met))
unfolding any clashes
found x [] e = absurd (false≢true e)
found x (y ∷ met) e = by (clashes x y) refl e (found x met)
  where
    Found : List Named → Type 0
    Found l = ((counts true x.owner ≡ 1) × (1 ≤ num true x.name l)) ⊎ ((counts false x.owner ≡ 1) × (1 ≤ num false x.name l))

    later : Found met → Found (y ∷ met)
    later (inl h) = inl (h.0, omega (arith, h.1))
    later (inr h) = inr (h.0, omega (arith, h.1))

    here : (y.name ≡ x.name) → ((counts true x.owner ≡ 1) × (counts true y.owner ≡ 1)) ⊎ ((counts false x.owner ≡ 1) × (counts false y.owner ≡ 1)) → Found (y ∷ met)
    here n (inl h) =
        inl (h.0, (let z : one true x.name y ≡ 1 = rw (eq-eqb y.name x.name n) h.1 in omega arith))
    here n (inr h) =
        inr (h.0, (let z : one false x.name y ≡ 1 = rw (eq-eqb y.name x.name n) h.1 in omega arith))

    by : (b : Bool) → eqb x.name y.name && not (may_share x.owner y.owner) ≡ b → b || any (clashes x) met ≡ true → (any (clashes x) met ≡ true → Found met) → Found (y ∷ met)
    by true q k ih =
        here (sym (eqb-true _ _ (and_left _ _ q))) (clasher x.owner y.owner (not-true _ (and_right (eqb x.name y.name) _ q)))
    by false q k ih = later (ih k)

count_no_clash : (met xs : List Named) → ((w : Bool) (i : ℕ) → num w i met + num w i xs ≤ 1) → first_clash met xs ≡ none
unfolding first_clash
count_no_clash met [] h = refl
count_no_clash met (x ∷ xs) h = by (any (clashes x) met) refl (count_no_clash (x ∷ met) xs (λ w i. let z = h w i in omega arith))
  where
    own : (w : Bool) → counts w x.owner ≡ 1 → one w x.name x ≡ 1
    own w c = rw (eq-eqb x.name x.name refl) c

    never : ((counts true x.owner ≡ 1) × (1 ≤ num true x.name met)) ⊎ ((counts false x.owner ≡ 1) × (1 ≤ num false x.name met)) → ⊥
    never (inl f) = let z = h true x.name in let y = own true f.0 in omega (arith, f.1)
    never (inr f) = let z = h false x.name in let y = own false f.0 in omega (arith, f.1)

    by : (b : Bool) → any (clashes x) met ≡ b → first_clash (x ∷ met) xs ≡ none → cond b (refusal 6 x.at) (first_clash (x ∷ met) xs) ≡ none
    by true q r = absurd (never (found x met q))
    by false q r = r

-- the ids of a part, counted
start_name_one : (w : Bool) (i : ℕ) (o : Owner) (p : Placed) → counts w o ≡ 1 → num w i (start_name o p) ≡ start_bit i p.item
unfolding start_name starts_id
start_name_one w i o p c = by (is_start p.item) (eqb (id_of p.item) i) refl
  where
    by : (s b : Bool) → eqb (id_of p.item) i ≡ b → num w i (cond s (record { owner = o; name = id_of p.item; at = p.at } ∷ []) []) ≡ bit (s && b)
    by true true e = rw (e, c)
    by true false e = rw e
    by false b e = refl

start_name_none : (w : Bool) (i : ℕ) (o : Owner) (p : Placed) → counts w o ≡ 0 → num w i (start_name o p) ≡ 0
unfolding start_name
start_name_none w i o p c = by (is_start p.item) (eqb (id_of p.item) i) refl
  where
    by : (s b : Bool) → eqb (id_of p.item) i ≡ b → num w i (cond s (record { owner = o; name = id_of p.item; at = p.at } ∷ []) []) ≡ 0
    by true true e = rw (e, c)
    by true false e = rw e
    by false b e = refl

start_names : (w : Bool) (i : ℕ) (o : Owner) (ps : List Placed) → counts w o ≡ 1 → num w i (gather (start_name o) ps) ≡ starts i (items ps)
unfolding gather items
start_names w i o [] c = refl
start_names w i o (p ∷ ps) c =
    let r = start_names w i o ps c in
    let a = sum_append (one w i) (start_name o p) (gather (start_name o) ps) in
    let b = start_name_one w i o p c in
    omega arith

no_names : (w : Bool) (i : ℕ) (o : Owner) (ps : List Placed) → counts w o ≡ 0 → num w i (gather (start_name o) ps) ≡ 0
unfolding gather
no_names w i o [] c = refl
no_names w i o (p ∷ ps) c =
    let r = no_names w i o ps c in
    let a = sum_append (one w i) (start_name o p) (gather (start_name o) ps) in
    let b = start_name_none w i o p c in
    omega arith

part_names : (w : Bool) (i : ℕ) (l : Located) → num w i (part_name l) ≡ part_bit i l.part
unfolding part_name
part_names w i l = by (eqb (head_id l.part.head) 0) (eqb (head_id l.part.head) i) refl
  where
    by : (z b : Bool) → eqb (head_id l.part.head) i ≡ b
        → num w i (cond z [] (record { owner = of_part; name = head_id l.part.head; at = l.at } ∷ [])) ≡ cond z 0 (bit b)
    by true b e = refl
    by false true e = rw e
    by false false e = rw e

pub items_of_target : (at : ℕ) (g : Target) → items (placed_target at g) ≡ target_items g
unfolding placed_target target_items items
items_of_target at no_target = refl
items_of_target at (target q xs) = items_placed at [] xs

abbrev ids : Bool → ℕ → Part → ℕ
ids true i p = source_ids i p
ids false i p = target_ids i p

names_ids : (w : Bool) (i : ℕ) (l : Located) → num w i (names l) ≡ ids w i l.part
unfolding names placed_source
names_ids w i l =
    let s : List Placed = placed_from (source_at l) [] l.part.source in
    let t : List Placed = placed_target (target_at l) l.part.target in
    let a = sum_append (one w i) (part_name l ++ gather (start_name of_source) s) (gather (start_name of_target) t) in
    let b = sum_append (one w i) (part_name l) (gather (start_name of_source) s) in
    let c = part_names w i l in
    by w a b c
  where
    by : (v : Bool)
        → num v i (part_name l ++ gather (start_name of_source) (placed_from (source_at l) [] l.part.source) ++ gather (start_name of_target) (placed_target (target_at l) l.part.target))
        ≡ num v i (part_name l ++ gather (start_name of_source) (placed_from (source_at l) [] l.part.source))
        + num v i (gather (start_name of_target) (placed_target (target_at l) l.part.target))
        → num v i (part_name l ++ gather (start_name of_source) (placed_from (source_at l) [] l.part.source))
        ≡ num v i (part_name l) + num v i (gather (start_name of_source) (placed_from (source_at l) [] l.part.source))
        → num v i (part_name l) ≡ part_bit i l.part
        → num v i (part_name l ++ gather (start_name of_source) (placed_from (source_at l) [] l.part.source) ++ gather (start_name of_target) (placed_target (target_at l) l.part.target))
        ≡ ids v i l.part
    by true a b c =
        let d = start_names true i of_source (placed_from (source_at l) [] l.part.source) refl in
        let e = no_names true i of_target (placed_target (target_at l) l.part.target) refl in
        let f = ap (starts i) (items_placed (source_at l) [] l.part.source) in
        omega arith
    by false a b c =
        let d = no_names false i of_source (placed_from (source_at l) [] l.part.source) refl in
        let e = start_names false i of_target (placed_target (target_at l) l.part.target) refl in
        let f = ap (starts i) (items_of_target (target_at l) l.part.target) in
        omega arith

all_names : (w : Bool) (i at : ℕ) (ps : List Part) → num w i (gather names (located_from at ps)) ≡ sum (ids w i) ps
unfolding gather located_from
all_names w i at [] = refl
all_names w i at (p ∷ ps) =
    let a = sum_append (one w i) (names (record { part = p; at = at })) (gather names (located_from (at + part_size p) ps)) in
    let b = names_ids w i (record { part = p; at = at }) in
    let c = all_names w i (at + part_size p) ps in
    omega arith

-- RULE 6, both ways
pub rule_6_counted : (ps : List Part) → fault_6 ps ≡ none → Rule6 ps
unfolding fault_6 located
rule_6_counted ps e =
    record {
      source_side = λ i. let a = all_names true i 3 ps in let b = no_clash_count true i [] (gather names (located_from 3 ps)) e (omega arith) in omega arith;
      target_side = λ i. let a = all_names false i 3 ps in let b = no_clash_count false i [] (gather names (located_from 3 ps)) e (omega arith) in omega arith;
    }

pub counted_rule_6 : (ps : List Part) → Rule6 ps → fault_6 ps ≡ none
unfolding fault_6 located
counted_rule_6 ps r = count_no_clash [] (gather names (located_from 3 ps)) at_most
  where
    at_most : (w : Bool) (i : ℕ) → num w i [] + num w i (gather names (located_from 3 ps)) ≤ 1
    at_most true i = let a = all_names true i 3 ps in let b = r.source_side i in omega arith
    at_most false i = let a = all_names false i 3 ps in let b = r.target_side i in omega arith
