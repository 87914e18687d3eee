-- Laws of linked keys: one key more, and what a search along the links passes over.
use Prim.Native.Nat.{ℕ, zero, suc, ◌+◌, ◌-◌, ◌≤◌, ◌<◌}
use mathlib.Core.Path.{◌≡◌, refl, sym, ap, ◌∙◌, subst}
use mathlib.Core.Bool.{Bool, true, false, ◌||◌, cond, true≢false}
use mathlib.Core.List.{List, [], ◌∷◌, ◌++◌}
use native.Mathlib.Omega.{arith}
use borrow.Author.Count.{below_more}
use borrow.Author.Tests.{eq-eqb, eqb-true}
use lib.Dec.{eqb}
use lib.ListN.{length, get_or, set, take, length-append, length-set, get_or-append}
use lib.Seq.{get_or-set_same, get_or-set_other, get_or-append_seam, take-suc, take_all, length-take-le}
use Rattle.xliff.specs.Bytes.{any}
use Rattle.xliff.proofs.lists.Tests.{any_append, or_none, or-true}
use Rattle.xliff.specs.Parse.{most_records}
use Rattle.id_links.specs.Nearest.{previous}
use Rattle.id_links.specs.Links.{group, in_group, Linked, Headed}
use Rattle.id_links.proofs.Scans.{previous_same}

module _ (keys : List ℕ) (k : ℕ) where
  -- what stands before the last key
  same_before : (g i j : ℕ) → i ≤ length keys → j < i → in_group keys g j ≡ in_group (keys ++ (k ∷ [])) g j
  same_before g i j h l = ap (λ (x : ℕ). eqb (group x) g) (sym (get_or-append keys (k ∷ []) 0 j (omega (arith, h, l))))

  last_key : get_or (keys ++ (k ∷ [])) (length keys) 0 ≡ k
  last_key = get_or-append_seam keys k [] 0

  longer : length (keys ++ (k ∷ [])) ≡ suc (length keys)
  longer = length-append keys (k ∷ []) ∙ (let z : length keys + 1 ≡ suc (length keys) = omega arith in z)

  kept : (g i : ℕ) → i ≤ length keys → previous (in_group keys g) i ≡ previous (in_group (keys ++ (k ∷ [])) g) i
  kept g i h = previous_same _ _ i (λ j l. same_before g i j h l)

  pub linked_more : (links heads : List ℕ) → length keys < length links → Linked keys links → Headed keys heads → group k < 256
      → Linked (keys ++ (k ∷ [])) (set links (length keys) (get_or heads (group k) 0))
  linked_more links heads room old last small j l =
      below_more (λ j. get_or (set links (length keys) (get_or heads (group k) 0)) j 0 ≡ previous (in_group (keys ++ (k ∷ [])) (group (get_or (keys ++ (k ∷ [])) j 0))) j) (length keys)
      (λ j s. get_or-set_other links (length keys) j (get_or heads (group k) 0) 0 (λ z. omega (arith, s, z)) ∙ old j s ∙ kept (group (get_or keys j 0)) j (omega (arith, s))
      ∙ ap (λ (x : ℕ). previous (in_group (keys ++ (k ∷ [])) (group x)) j) (sym (get_or-append keys (k ∷ []) 0 j s)))
      (get_or-set_same links (length keys) (get_or heads (group k) 0) 0 room ∙ last (group k) small ∙ kept (group k) (length keys) (omega arith)
      ∙ ap (λ (x : ℕ). previous (in_group (keys ++ (k ∷ [])) (group x)) (length keys)) (sym last_key))
      j (omega (arith, l, longer))

  pub headed_more : (heads : List ℕ) → length heads ≡ 256 → Headed keys heads → Headed (keys ++ (k ∷ [])) (set heads (group k) (length keys + 1))
  unfolding previous
  headed_more heads all old g l =
      by (eqb (group k) g) refl
      ∙ ap (λ (b : Bool). cond b (suc (length keys)) (previous (in_group (keys ++ (k ∷ [])) g) (length keys))) (sym (ap (λ (x : ℕ). eqb (group x) g) last_key))
      ∙ ap (previous (in_group (keys ++ (k ∷ [])) g)) (sym longer)
    where
      by : (b : Bool) → eqb (group k) g ≡ b → get_or (set heads (group k) (length keys + 1)) g 0 ≡ cond b (suc (length keys)) (previous (in_group (keys ++ (k ∷ [])) g) (length keys))
      by true e =
          ap (λ (x : ℕ). get_or (set heads (group k) (length keys + 1)) x 0) (sym (eqb-true (group k) g e))
          ∙ get_or-set_same heads (group k) (length keys + 1) 0 (omega (arith, all, l, eqb-true (group k) g e))
          ∙ (let z : length keys + 1 ≡ suc (length keys) = omega arith in z)
      by false e = get_or-set_other heads (group k) g (length keys + 1) 0 (λ z. true≢false (sym (eq-eqb (group k) g (sym z)) ∙ e)) ∙ old g l ∙ kept g (length keys) (omega arith)

-- some of the first elements passes
pub any_hit : (p : ℕ → Bool) (l : List ℕ) (j : ℕ) → 0 < j → j ≤ length l → p (get_or l (j - 1) 0) ≡ true → any p (take j l) ≡ true
unfolding any
any_hit p l zero h m e = absurd (omega (arith, h))
any_hit p l (suc j) h m e =
    ap (any p) (take-suc l j 0 (omega (arith, m)))
    ∙ any_append p (take j l) (get_or l j 0 ∷ [])
    ∙ ap (λ (b : Bool). any p (take j l) || (b || false))
    (subst (λ (i : ℕ). p (get_or l i 0) ≡ true) (let z : suc j - 1 ≡ j = omega arith in z) e)
    ∙ or-true (any p (take j l))

pub any_miss : (p : ℕ → Bool) (l : List ℕ) (j : ℕ) → j < length l → p (get_or l j 0) ≡ false → any p (take (suc j) l) ≡ any p (take j l)
unfolding any
any_miss p l j m e = ap (any p) (take-suc l j 0 m) ∙ any_append p (take j l) (get_or l j 0 ∷ []) ∙ ap (λ (b : Bool). any p (take j l) || (b || false)) e ∙ or_none (any p (take j l))

-- a search among the first elements may pass over what is in another group
pub any_past : (p : ℕ → Bool) (q : ℕ → Bool) (l : List ℕ) → ((k : ℕ) → k < length l → q k ≡ false → p (get_or l k 0) ≡ false) → (i : ℕ) → i ≤ length l → any p (take i l) ≡ any p (take (previous q i) l)
unfolding previous
any_past p q l wider zero h = refl
any_past p q l wider (suc i) h = by (q i) refl (any_past p q l wider i (omega (arith, h)))
  where
    by : (b : Bool) → q i ≡ b → any p (take i l) ≡ any p (take (previous q i) l) → any p (take (suc i) l) ≡ any p (take (cond b (suc i) (previous q i)) l)
    by true e ih = refl
    by false e ih = any_miss p l i (omega (arith, h)) (wider i (omega (arith, h)) e) ∙ ih

-- the link of a key of a group
pub link_is : (keys links : List ℕ) (g j : ℕ) → Linked keys links → 0 < j → j ≤ length keys → in_group keys g (j - 1) ≡ true → get_or links (j - 1) 0 ≡ previous (in_group keys g) (j - 1)
link_is keys links g j f h m e = f (j - 1) (omega (arith, h, m)) ∙ ap (λ (x : ℕ). previous (in_group keys x) (j - 1)) (eqb-true (group (get_or keys (j - 1) 0)) g e)

-- the links of the first i keys, one key more
module _ (keys links heads : List ℕ) (i : ℕ) (l : i < length keys) where
  one_more : take (i + 1) keys ≡ take i keys ++ (get_or keys i 0 ∷ [])
  one_more = ap (λ (j : ℕ). take j keys) (let z : i + 1 ≡ suc i = omega arith in z) ∙ take-suc keys i 0 l

  so_many : length (take i keys) ≡ i
  so_many = length-take-le i keys (omega (arith, l))

  small : group (get_or keys i 0) < 256
  small = omega arith

  pub linked_next : length keys ≤ length links → Linked (take i keys) links → Headed (take i keys) heads → Linked (take (i + 1) keys) (set links i (get_or heads (group (get_or keys i 0)) 0))
  linked_next room old last =
      subst (λ (some_keys : List ℕ). Linked some_keys (set links i (get_or heads (group (get_or keys i 0)) 0))) (sym one_more)
      (subst (λ (j : ℕ). Linked (take i keys ++ (get_or keys i 0 ∷ [])) (set links j (get_or heads (group (get_or keys i 0)) 0))) so_many
      (linked_more (take i keys) (get_or keys i 0) links heads (omega (arith, l, room, so_many)) old last small))

  pub headed_next : length heads ≡ 256 → Headed (take i keys) heads → Headed (take (i + 1) keys) (set heads (group (get_or keys i 0)) (i + 1))
  headed_next all old =
      subst (λ (some_keys : List ℕ). Headed some_keys (set heads (group (get_or keys i 0)) (i + 1))) (sym one_more)
      (subst (λ (j : ℕ). Headed (take i keys ++ (get_or keys i 0 ∷ [])) (set heads (group (get_or keys i 0)) (j + 1))) so_many
      (headed_more (take i keys) (get_or keys i 0) heads all old))

-- what holds while the keys are linked, one after the other
abbrev pub LinkedUpTo : List ℕ → ℕ → List ℕ → List ℕ → Type 0
LinkedUpTo keys i links heads = (i ≤ length keys) × (length links ≡ most_records) × (length heads ≡ 256) × Linked (take i keys) links × Headed (take i keys) heads

pub up_to_next : (keys links heads links' heads' : List ℕ) (i : ℕ) → i < length keys → length keys ≤ most_records → LinkedUpTo keys i links heads
    → links' ≡ set links i (get_or heads (group (get_or keys i 0)) 0) → heads' ≡ set heads (group (get_or keys i 0)) (i + 1) → LinkedUpTo keys (i + 1) links' heads'
up_to_next keys links heads links' heads' i l few old e f = (
  omega (arith, l),
  ap length e ∙ length-set links i (get_or heads (group (get_or keys i 0)) 0) ∙ old.1,
  ap length f ∙ length-set heads (group (get_or keys i 0)) (i + 1) ∙ old.2,
  subst (Linked (take (i + 1) keys)) (sym e) (linked_next keys links heads i l (omega (arith, few, old.1)) old.3 old.4),
  subst (Headed (take (i + 1) keys)) (sym f) (headed_next keys links heads i l old.2 old.4),
)

pub up_to_end : (keys links heads : List ℕ) (i : ℕ) → length keys ≤ i → LinkedUpTo keys i links heads → Linked keys links × Headed keys heads
up_to_end keys links heads i l old =
    let e : take i keys ≡ keys = take_all i keys l in
    (subst (λ (some_keys : List ℕ). Linked some_keys links) e old.3, subst (λ (some_keys : List ℕ). Headed some_keys heads) e old.4)
