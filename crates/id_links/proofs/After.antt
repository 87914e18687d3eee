-- Links to what is after, filled from the end.
use Prim.Native.Nat.{ℕ, suc, ◌+◌, ◌-◌, ◌≤◌, ◌<◌}
use mathlib.Core.Path.{◌≡◌, refl, sym, ap, ◌∙◌, subst}
use mathlib.Core.Bool.{Bool, true, false, true≢false}
use mathlib.Core.List.{List}
use native.Mathlib.Omega.{arith}
use borrow.Author.Tests.{eq-eqb, eqb-true}
use lib.Dec.{eqb}
use lib.ListN.{length, get_or, set, length-set, replicate, get_or-replicate}
use lib.Seq.{get_or-set_same, get_or-set_other}
use Rattle.id_links.specs.Nearest.{next}
use Rattle.id_links.specs.Links.{group, in_group, LinkedAfter}
use Rattle.id_links.proofs.Scans.{next_hit, next_miss}
use Rattle.xliff.specs.Parse.{most_records}

-- the links of the keys from i on, and of each group the first of them, counted from the end
abbrev pub LinkedFrom : List ℕ → ℕ → List ℕ → Type 0
LinkedFrom keys i links = (k : ℕ) → i ≤ k → k < length keys → get_or links k 0 + next (in_group keys (group (get_or keys k 0))) (suc k) (length keys - suc k) ≡ length keys

abbrev pub HeadedFrom : List ℕ → ℕ → List ℕ → Type 0
HeadedFrom keys i heads = (g : ℕ) → g < 256 → get_or heads g 0 + next (in_group keys g) i (length keys - i) ≡ length keys

module _ (keys links heads : List ℕ) (i : ℕ) (l : i < length keys) (g : ℕ) (e : g ≡ group (get_or keys i 0)) where
  pub linked_from : length keys ≤ length links → g < 256 → LinkedFrom keys (i + 1) links → HeadedFrom keys (i + 1) heads → LinkedFrom keys i (set links i (get_or heads g 0))
  linked_from room small old first k h m = by (eqb k i) refl
    where
      by : (b : Bool) → eqb k i ≡ b → get_or (set links i (get_or heads g 0)) k 0 + next (in_group keys (group (get_or keys k 0))) (suc k) (length keys - suc k) ≡ length keys
      by true s =
          let z = eqb-true k i s in
          ap (λ (j : ℕ). get_or (set links i (get_or heads g 0)) j 0 + next (in_group keys (group (get_or keys j 0))) (suc j) (length keys - suc j)) z
          ∙ ap (λ (x : ℕ). x + next (in_group keys (group (get_or keys i 0))) (suc i) (length keys - suc i)) (get_or-set_same links i (get_or heads g 0) 0 (omega (arith, l, room)))
          ∙ ap (λ (x : ℕ). get_or heads g 0 + next (in_group keys x) (suc i) (length keys - suc i)) (sym e)
          ∙ ap (λ (j : ℕ). get_or heads g 0 + next (in_group keys g) j (length keys - j)) (let w : suc i ≡ i + 1 = omega arith in w)
          ∙ first g small
      by false s =
          let n : k ≡ i → ⊥ = λ z. true≢false (sym (eq-eqb k i z) ∙ s) in
          ap (λ (x : ℕ). x + next (in_group keys (group (get_or keys k 0))) (suc k) (length keys - suc k)) (get_or-set_other links i k (get_or heads g 0) 0 n)
          ∙ old k (omega (arith, h, n)) m

  pub headed_from : length heads ≡ 256 → HeadedFrom keys (i + 1) heads → HeadedFrom keys i (set heads g (length keys - i))
  headed_from all old x small = by (eqb g x) refl
    where
      by : (b : Bool) → eqb g x ≡ b → get_or (set heads g (length keys - i)) x 0 + next (in_group keys x) i (length keys - i) ≡ length keys
      by true s =
          let z = eqb-true g x s in
          ap (λ (y : ℕ). get_or (set heads g (length keys - i)) y 0 + next (in_group keys x) i (length keys - i)) (sym z)
          ∙ ap (λ (y : ℕ). y + next (in_group keys x) i (length keys - i)) (get_or-set_same heads g (length keys - i) 0 (omega (arith, all, small, z)))
          ∙ ap (λ (y : ℕ). length keys - i + y) (next_hit (in_group keys x) (length keys) i l (eq-eqb (group (get_or keys i 0)) x (sym e ∙ z)))
          ∙ omega (arith, l)
      by false s =
          let n : x ≡ g → ⊥ = λ z. true≢false (sym (eq-eqb g x (sym z)) ∙ s) in
          ap (λ (y : ℕ). y + next (in_group keys x) i (length keys - i)) (get_or-set_other heads g x (length keys - i) 0 n)
          ∙ ap (λ (y : ℕ). get_or heads x 0 + y) (next_miss (in_group keys x) (length keys) i l (ap (λ (y : ℕ). eqb y x) (sym e) ∙ s))
          ∙ old x small

-- what holds while the keys are linked from the end
abbrev pub LinkedDownTo : List ℕ → ℕ → List ℕ → List ℕ → Type 0
LinkedDownTo keys i links heads = (i ≤ length keys) × (length links ≡ most_records) × (length heads ≡ 256) × LinkedFrom keys i links × HeadedFrom keys i heads

pub down_to_next : (keys links heads : List ℕ) (i g : ℕ) → 0 < i → length keys ≤ most_records → (g ≡ group (get_or keys (i - 1) 0)) × (g < 256) → LinkedDownTo keys i links heads
    → LinkedDownTo keys (i - 1) (set links (i - 1) (get_or heads g 0)) (set heads g (length keys - (i - 1)))
down_to_next keys links heads i g h few e old =
    let l : i - 1 < length keys = omega (arith, h, old.0) in
    let z : i ≡ i - 1 + 1 = omega (arith, h) in (
      omega (arith, old.0),
      length-set links (i - 1) (get_or heads g 0) ∙ old.1,
      length-set heads g (length keys - (i - 1)) ∙ old.2,
      linked_from keys links heads (i - 1) l g e.0 (omega (arith, few, old.1)) e.1
          (subst (λ (j : ℕ). LinkedFrom keys j links) z old.3)
          (subst (λ (j : ℕ). HeadedFrom keys j heads) z old.4),
      headed_from keys links heads (i - 1) l g e.0 old.2 (subst (λ (j : ℕ). HeadedFrom keys j heads) z old.4),
    )

pub down_to_start : (keys links : List ℕ) → length links ≡ most_records → LinkedDownTo keys (length keys) links (replicate 256 0)
unfolding next
down_to_start keys links h = (
  omega arith,
  h,
  refl,
  λ k l m. absurd (omega (arith, l, m)),
  λ g l. ap (λ (x : ℕ). x + next (in_group keys g) (length keys) (length keys - length keys)) (get_or-replicate 256 g 0 0 l)
      ∙ ap (λ (m : ℕ). 0 + next (in_group keys g) (length keys) m) (let z : length keys - length keys ≡ 0 = omega arith in z)
      ∙ omega arith,
)

pub down_to_end : (keys links heads : List ℕ) (i : ℕ) → i ≤ 0 → LinkedDownTo keys i links heads → LinkedAfter keys links
down_to_end keys links heads i h old k l = old.3 k (omega (arith, h)) l
