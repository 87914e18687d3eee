-- Codes that may not be removed: in a valid table each stands once; an accepted setting of a target keeps each that
-- stood there.
use borrow.Author.Tests.{not-false}
use Prim.Native.Nat.{ℕ, zero, suc, ◌+◌, ◌≤◌}
use native.Mathlib.Omega.{arith}
use mathlib.Core.Path.{◌≡◌, refl, sym, ap, ◌∙◌}
use mathlib.Core.Bool.{Bool, true, false, not, ◌&&◌, ◌||◌, false≢true}
use mathlib.Core.List.{List, [], ◌∷◌, ◌++◌, Memᴰ}
use mathlib.Core.Option.{none}
use Rattle.xliff.specs.Bytes.{Bytes, any}
use Rattle.xliff.specs.Item.{Item, Content, same, flat, flattened, is_inline_code, non_removable}
use Rattle.xliff.specs.Unit.{Target, no_target, target, Part, XliffUnit, target_sequence, with_state}
use Rattle.xliff.specs.Parse.{unit}
use Rattle.xliff.specs.Rules.{fault_5, fault_6, fault_6_to_10}
use Rattle.xliff.specs.Check.{Valid}
use Rattle.xliff.specs.Focus.{here}
use Rattle.xliff.specs.SetTarget.{old_content, same_flat, is_lost, new_order, set_focus}
use Rattle.xliff.specs.BothEnds.{flat_target, times}
use Rattle.xliff.proofs.lists.Sum.{bit, sum, sum_append}
use Rattle.xliff.proofs.lists.Tests.{and_left, or_left, or_right}
use Rattle.xliff.proofs.rules.Flat.{class_flat, fields_flat}
use Rattle.xliff.proofs.unit.Result.{then_left, then_right, Sent, sent}
use Rattle.xliff.proofs.rules.Six.{rule_6_counted}
use Rattle.xliff.proofs.rules.Seven.{rule_7_good}
use Rattle.xliff.proofs.rules.Place.{taken_out, put_in_place}
use Rattle.xliff.proofs.both_ends.Once.{copies, copies_flat, times_copies, at_most_once, mem_copies, equal_removable, equal_trans}

-- a unit in order: each code once at most
pub sent_once : (u : XliffUnit) → Sent u → (x : Item) → is_inline_code x ≡ true → copies x (flattened (target_sequence u.parts)) ≤ 1
unfolding fault_6_to_10
sent_once u s x c =
    let six = rule_6_counted u.parts (then_left _ _ s.rules) in
    at_most_once u.parts six (rule_7_good u.parts six (then_left _ _ (then_right (fault_6 u.parts) _ s.rules))) x c

pub code_if : (x : Item) → non_removable x ≡ true → is_inline_code x ≡ true
unfolding non_removable
code_if x e = and_left _ _ e

-- in a valid table a code of its target that may not be removed stands exactly once
pub once : (t : List ℕ) (x : Item) → Bytes t → Valid t → Memᴰ x (flat_target t) → non_removable x ≡ true → times x (flat_target t) ≡ 1
unfolding flat_target
once t x b v m n =
    let most = sent_once (unit t) (sent t b v) x (code_if x n) in
    let least = mem_copies x (flattened (target_sequence (unit t).parts)) m in
    let e = times_copies x (flattened (target_sequence (unit t).parts)) in
    omega arith

-- copies in a sequence, items flattened
abbrev found : Item → Content → ℕ
found x ys = sum (λ y. bit (same x (flat y))) ys

flat_removable : (y : Item) → non_removable (flat y) ≡ non_removable y
unfolding non_removable
flat_removable y = rw (class_flat y, fields_flat y)

any_found : (x y : Item) (zs : Content) → same x (flat y) ≡ true → any (same_flat y) zs ≡ true → 1 ≤ found x zs
unfolding any same_flat
any_found x y [] e k = absurd (false≢true k)
any_found x y (z ∷ zs) e k = by (same (flat y) (flat z)) refl k (any_found x y zs e)
  where
    by : (b : Bool) → same (flat y) (flat z) ≡ b → b || any (same_flat y) zs ≡ true → (any (same_flat y) zs ≡ true → 1 ≤ found x zs) → 1 ≤ bit (same x (flat z)) + found x zs
    by true q h ih = let w : bit (same x (flat z)) ≡ 1 = rw (equal_trans x (flat y) (flat z) e q) in omega arith
    by false q h ih = let w = ih h in omega arith

-- 18: what is not lost is found in the new content
not_lost : (x : Item) (new xs : Content) → non_removable x ≡ true → any (is_lost new) xs ≡ false → 1 ≤ found x xs → 1 ≤ found x new
unfolding any is_lost
not_lost x new [] n e h = absurd (let z : ⊥ = omega arith in z)
not_lost x new (y ∷ xs) n e h = by (same x (flat y)) refl (not_lost x new xs n (or_right (is_lost new y) _ e))
  where
    by : (b : Bool) → same x (flat y) ≡ b → (1 ≤ found x xs → 1 ≤ found x new) → 1 ≤ found x new
    by true q ih =
        let r : non_removable y ≡ true = sym (flat_removable y) ∙ sym (equal_removable x (flat y) q) ∙ n in
        let l : non_removable y && not (any (same_flat y) new) ≡ false = or_left _ _ e in
        any_found x y new q (not-false _ (rw r at l))
    by false q ih = ih (let z : bit (same x (flat y)) ≡ 0 = rw q in omega arith)

through : (f g a c : ℕ) → 1 ≤ f + (a + g) → (1 ≤ a → 1 ≤ c) → 1 ≤ f + (c + g)
through f g zero c h k = omega arith
through f g (suc a) c h k = let z = k (omega arith) in omega arith

-- Setting a target keeps the codes
pub set_codes : (u : XliffUnit) (n st : ℕ) (new : Content) (b : List Part) (p : Part) (a : List Part) → u.parts ≡ b ++ (p ∷ a) → fault_5 u.parts ≡ none
    → fault_5 (set_focus u.parts n st new (here b p a)) ≡ none → any (is_lost new) (old_content p.source p.target) ≡ false
    → (x : Item) → non_removable x ≡ true → 1 ≤ copies x (flattened (target_sequence u.parts)) → 1 ≤ copies x (flattened (target_sequence (set_focus u.parts n st new (here b p a))))
unfolding set_focus new_order old_content
set_codes u n st new b p a at five now lost x nr h =
    by p.target refl lost now
  where
    set_part : ℕ → Part
    set_part q = record { head = with_state st p.head; source = p.source; target = target q new }

    was : copies x (flattened (target_sequence u.parts)) ≡ found x (target_sequence (b ++ (p ∷ a)))
    was = copies_flat x (target_sequence u.parts) ∙ ap (λ (l : List Part). found x (target_sequence l)) at

    with_old : (q : ℕ) (xs : Content) → p.target ≡ target q xs → any (is_lost new) xs ≡ false → 1 ≤ copies x (flattened (target_sequence (b ++ (set_part q ∷ a))))
    with_old q xs e l =
        let (s, t, y, z) = put_in_place b p (set_part q) a q xs new e refl (ap fault_5 (sym at) ∙ five) in
        let c = copies_flat x (target_sequence (b ++ (set_part q ∷ a))) in
        let w = was in
        let y₁ = ap (found x) y in
        let z₁ = ap (found x) z in
        let s₁ = sum_append (λ (i : Item). bit (same x (flat i))) s (xs ++ t) in
        let s₂ = sum_append (λ (i : Item). bit (same x (flat i))) xs t in
        let s₃ = sum_append (λ (i : Item). bit (same x (flat i))) s (new ++ t) in
        let s₄ = sum_append (λ (i : Item). bit (same x (flat i))) new t in
        let r = through (found x s) (found x t) (found x xs) (found x new) (omega arith) (λ k. not_lost x new xs nr l k) in
        omega arith

    without_old : (q : ℕ) → p.target ≡ no_target → fault_5 (b ++ (set_part q ∷ a)) ≡ none → 1 ≤ copies x (flattened (target_sequence (b ++ (set_part q ∷ a))))
    without_old q e f =
        let (s, t, y, z) = taken_out b (set_part q) p a q new refl e f in
        let c = copies_flat x (target_sequence (b ++ (set_part q ∷ a))) in
        let w = was in
        let y₁ = ap (found x) y in
        let z₁ = ap (found x) z in
        let s₁ = sum_append (λ (i : Item). bit (same x (flat i))) s t in
        let s₃ = sum_append (λ (i : Item). bit (same x (flat i))) s (new ++ t) in
        let s₄ = sum_append (λ (i : Item). bit (same x (flat i))) new t in
        omega arith

    by : (g : Target) → p.target ≡ g → any (is_lost new) (old_content p.source g) ≡ false
        → fault_5 (b ++ (record { head = with_state st p.head; source = p.source; target = target (new_order u.parts n g) new } ∷ a)) ≡ none
        → 1 ≤ copies x (flattened (target_sequence (b ++ (record { head = with_state st p.head; source = p.source; target = target (new_order u.parts n g) new } ∷ a))))
    by no_target e l f = without_old (new_order u.parts n no_target) e f
    by (target q xs) e l f = with_old q xs e l
