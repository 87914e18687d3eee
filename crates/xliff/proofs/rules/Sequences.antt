-- Laws of the sequences: the rules 7 to 10 speak of the items alone, not of their offsets.
use Prim.Native.Nat.{ℕ, zero, suc, ◌+◌}
use mathlib.Core.Path.{◌≡◌, refl, sym, ap, ap₂, ◌∙◌}
use mathlib.Core.Bool.{Bool, true, false, not, ◌&&◌, cond, false≢true}
use mathlib.Core.List.{List, [], ◌∷◌, ◌++◌, reverse_aux}
use mathlib.Core.Option.{none}
use native.Mathlib.Omega.{arith}
use lib.ListN.{length}
use lib.Dec.{eqb}
use Rattle.xliff.specs.Bytes.{gather}
use Rattle.xliff.specs.Item.{Item, Content}
use Rattle.xliff.specs.Unit.{Target, no_target, target, Part, source_sequence, of_order, target_of_order, targets, target_sequence}
use Rattle.xliff.specs.Sequences.{located_from, located, part_size, source_at, target_at, Placed, placed_from, placed_source, placed_source_sequence, placed_of_order, placed_targets, placed_target_sequence, items, blamed, first_of}
use Rattle.xliff.specs.Rules.{bad_8_source, bad_8_target, bad_9, bad_10_source, bad_10_target, fault_8, fault_9, fault_10}
use Rattle.xliff.proofs.lists.Tests.{none_some, map-append, and_right}

-- offsets taken away
pub items_placed : (at : ℕ) (seen xs : Content) → items (placed_from at seen xs) ≡ xs
unfolding items placed_from
items_placed at seen [] = refl
items_placed at seen (x ∷ xs) = ap {B = Content} (λ l. x ∷ l) (items_placed at (x ∷ seen) xs)

pub items_append : (ps qs : List Placed) → items (ps ++ qs) ≡ items ps ++ items qs
unfolding items
items_append ps qs = map-append (λ p. p.item) ps qs

pub items_source : (at : ℕ) (ps : List Part) → items (placed_source_sequence (located_from at ps)) ≡ source_sequence ps
unfolding placed_source_sequence located_from source_sequence gather placed_source items
items_source at [] = refl
items_source at (p ∷ ps) =
    items_append (placed_source (record { part = p; at = at })) (placed_source_sequence (located_from (at + part_size p) ps))
    ∙ ap₂ ◌++◌ (items_placed (source_at (record { part = p; at = at })) [] p.source) (items_source (at + part_size p) ps)

items_of_order : (q at : ℕ) (g : Target) → items (placed_of_order q at g) ≡ of_order q g
unfolding placed_of_order of_order items
items_of_order q at no_target = refl
items_of_order q at (target r xs) = by (eqb q r)
  where
    by : (b : Bool) → items (cond b (placed_from at [] xs) []) ≡ cond b xs []
    by true = items_placed at [] xs
    by false = refl

items_target_of_order : (q at : ℕ) (ps : List Part)
    → items (gather (λ l. placed_of_order q (target_at l) l.part.target) (located_from at ps)) ≡ target_of_order ps q
unfolding located_from gather target_of_order items
items_target_of_order q at [] = refl
items_target_of_order q at (p ∷ ps) =
    items_append (placed_of_order q (target_at (record { part = p; at = at })) p.target) (gather (λ l. placed_of_order q (target_at l) l.part.target) (located_from (at + part_size p) ps))
    ∙ ap₂ ◌++◌ (items_of_order q (target_at (record { part = p; at = at })) p.target) (items_target_of_order q (at + part_size p) ps)

items_targets : (at q n : ℕ) (ps : List Part) → items (placed_targets (located_from at ps) q n) ≡ targets ps q n
unfolding placed_targets targets items
items_targets at q zero ps = refl
items_targets at q (suc n) ps =
    items_append (gather (λ l. placed_of_order (suc q) (target_at l) l.part.target) (located_from at ps)) (placed_targets (located_from at ps) (suc q) n)
    ∙ ap₂ ◌++◌ (items_target_of_order (suc q) at ps) (items_targets at (suc q) n ps)

pub length_from : (at : ℕ) (ps : List Part) → length (located_from at ps) ≡ length ps
unfolding located_from
length_from at [] = refl
length_from at (p ∷ ps) = ap suc (length_from (at + part_size p) ps)

pub items_target : (at : ℕ) (ps : List Part) → items (placed_target_sequence (located_from at ps)) ≡ target_sequence ps
unfolding placed_target_sequence target_sequence
items_target at ps = ap (λ (n : ℕ). items (placed_targets (located_from at ps) 0 n)) (length_from at ps) ∙ items_targets at 0 (length ps) ps

-- a test that no item of a list fails, each with what is before and after it
unfoldable pub clear : (Content → Item → Content → Bool) → Content → Content → Bool
clear bad before [] = true
clear bad before (x ∷ xs) = not (bad before x xs) && clear bad (x ∷ before) xs

-- tests that agree; and what is clear from some place on
pub clear_cong : (bad bad' : Content → Item → Content → Bool) → ((b : Content) (x : Item) (a : Content) → bad b x a ≡ bad' b x a) → (b xs : Content) → clear bad b xs ≡ clear bad' b xs
unfolding clear
clear_cong bad bad' h b [] = refl
clear_cong bad bad' h b (x ∷ xs) = ap₂ (λ (s t : Bool). not s && t) (h b x xs) (clear_cong bad bad' h (x ∷ b) xs)

pub clear_drop : (bad : Content → Item → Content → Bool) (b xs ys : Content) → clear bad b (xs ++ ys) ≡ true → clear bad (reverse_aux xs b) ys ≡ true
unfolding clear
clear_drop bad b [] ys e = e
clear_drop bad b (x ∷ xs) ys e = clear_drop bad (x ∷ b) xs ys (and_right (not (bad b x (xs ++ ys))) _ e)

pub blamed_clear : (bad : Content → Item → Content → Bool) (before : Content) (ps : List Placed) → clear bad before (items ps) ≡ true → blamed bad before ps ≡ []
unfolding blamed clear items
blamed_clear bad before [] e = refl
blamed_clear bad before (p ∷ ps) e = by (bad before p.item (items ps)) refl e (blamed_clear bad (p.item ∷ before) ps)
  where
    rest : List ℕ
    rest = blamed bad (p.item ∷ before) ps

    by : (b : Bool) → bad before p.item (items ps) ≡ b → not b && clear bad (p.item ∷ before) (items ps) ≡ true
        → (clear bad (p.item ∷ before) (items ps) ≡ true → rest ≡ []) → cond b (p.at ∷ rest) rest ≡ []
    by true q k ih = absurd (false≢true k)
    by false q k ih = ih k

pub clear_blamed : (bad : Content → Item → Content → Bool) (before : Content) (ps : List Placed) → blamed bad before ps ≡ [] → clear bad before (items ps) ≡ true
unfolding blamed clear items
clear_blamed bad before [] e = refl
clear_blamed bad before (p ∷ ps) e = by (bad before p.item (items ps)) refl e (clear_blamed bad (p.item ∷ before) ps)
  where
    rest : List ℕ
    rest = blamed bad (p.item ∷ before) ps

    by : (b : Bool) → bad before p.item (items ps) ≡ b → cond b (p.at ∷ rest) rest ≡ []
        → (rest ≡ [] → clear bad (p.item ∷ before) (items ps) ≡ true) → not b && clear bad (p.item ∷ before) (items ps) ≡ true
    by true q k ih = let z : ◌≡◌ {A = ℕ} 0 1 = cc in absurd (let y : ⊥ = omega arith in y)
    by false q k ih = ih k

-- no place, no refusal
pub first_of_none : (n : ℕ) (l : List ℕ) → first_of n l ≡ none → l ≡ []
unfolding first_of
first_of_none n [] e = refl
first_of_none n (a ∷ l) e = absurd (none_some (sym e))

pub append_nil_left : {A : Type 0} (l m : List A) → l ++ m ≡ [] → l ≡ []
append_nil_left [] m e = refl
append_nil_left (x ∷ l) m e = let z : ◌≡◌ {A = ℕ} 0 1 = cc in absurd (let y : ⊥ = omega arith in y)

pub append_nil_right : {A : Type 0} (l m : List A) → l ++ m ≡ [] → m ≡ []
append_nil_right [] m e = e
append_nil_right (x ∷ l) m e = let z : ◌≡◌ {A = ℕ} 0 1 = cc in absurd (let y : ⊥ = omega arith in y)

-- two tests of the two sequences, as one number
module _ (n : ℕ) (bad bad' : Content → Item → Content → Bool) (ps : List Part) where
  pub two_clear : first_of n (blamed bad [] (placed_source_sequence (located ps)) ++ blamed bad' [] (placed_target_sequence (located ps))) ≡ none
      → (clear bad [] (source_sequence ps) ≡ true) × (clear bad' [] (target_sequence ps) ≡ true)
  unfolding located
  two_clear e =
      let l = first_of_none n _ e in (
        ap (clear bad []) (sym (items_source 3 ps)) ∙ clear_blamed bad [] (placed_source_sequence (located_from 3 ps)) (append_nil_left _ _ l),
        ap (clear bad' []) (sym (items_target 3 ps))
            ∙ clear_blamed bad' [] (placed_target_sequence (located_from 3 ps)) (append_nil_right (blamed bad [] (placed_source_sequence (located_from 3 ps))) _ l),
      )

  pub clear_two : clear bad [] (source_sequence ps) ≡ true → clear bad' [] (target_sequence ps) ≡ true
      → first_of n (blamed bad [] (placed_source_sequence (located ps)) ++ blamed bad' [] (placed_target_sequence (located ps))) ≡ none
  unfolding located first_of
  clear_two s t =
      let a : blamed bad [] (placed_source_sequence (located_from 3 ps)) ≡ [] = blamed_clear bad [] _ (ap (clear bad []) (items_source 3 ps) ∙ s) in
      let b : blamed bad' [] (placed_target_sequence (located_from 3 ps)) ≡ [] = blamed_clear bad' [] _ (ap (clear bad' []) (items_target 3 ps) ∙ t) in
      ap (first_of n) (ap₂ ◌++◌ a b)

-- 8, 9 and 10 as statements of the two sequences
pub rule_8 : (ps : List Part) → fault_8 ps ≡ none → (clear bad_8_source [] (source_sequence ps) ≡ true) × (clear bad_8_target [] (target_sequence ps) ≡ true)
unfolding fault_8
rule_8 ps e = two_clear 8 bad_8_source bad_8_target ps e

pub rule_8_back : (ps : List Part) → clear bad_8_source [] (source_sequence ps) ≡ true → clear bad_8_target [] (target_sequence ps) ≡ true → fault_8 ps ≡ none
unfolding fault_8
rule_8_back ps s t = clear_two 8 bad_8_source bad_8_target ps s t

pub rule_9 : (ps : List Part) → fault_9 ps ≡ none → (clear bad_9 [] (source_sequence ps) ≡ true) × (clear bad_9 [] (target_sequence ps) ≡ true)
unfolding fault_9
rule_9 ps e = two_clear 9 bad_9 bad_9 ps e

pub rule_9_back : (ps : List Part) → clear bad_9 [] (source_sequence ps) ≡ true → clear bad_9 [] (target_sequence ps) ≡ true → fault_9 ps ≡ none
unfolding fault_9
rule_9_back ps s t = clear_two 9 bad_9 bad_9 ps s t

pub rule_10 : (ps : List Part) → fault_10 ps ≡ none
    → (clear bad_10_source [] (source_sequence ps) ≡ true) × (clear (bad_10_target (source_sequence ps)) [] (target_sequence ps) ≡ true)
unfolding fault_10
rule_10 ps e = two_clear 10 bad_10_source (bad_10_target (source_sequence ps)) ps e

pub rule_10_back : (ps : List Part) → clear bad_10_source [] (source_sequence ps) ≡ true → clear (bad_10_target (source_sequence ps)) [] (target_sequence ps) ≡ true
    → fault_10 ps ≡ none
unfolding fault_10
rule_10_back ps s t = clear_two 10 bad_10_source (bad_10_target (source_sequence ps)) ps s t
