-- Two lists of chains (document 02, order 4): `rearranged` is true exactly of permutations; and exactly where the lists
-- are as many and each chain of the first stands as often in both, which is how the code makes the test.
use Prim.Native.Nat.{ℕ, ◌+◌, ◌≤◌}
use native.Mathlib.Omega.{arith}
use mathlib.Core.Path.{◌≡◌, refl, sym, ap, ap₂, ◌∙◌, subst}
use mathlib.Core.Bool.{Bool, true, false, not, ◌&&◌, cond, true≢false}
use mathlib.Core.List.Permᴰ
use mathlib.Core.List.{List, [], ◌∷◌, Permᴰ}
use mathlib.Core.Option.{Option, none, some}
use lib.ListN.{length}
use lib.Dec.{eqb}
use borrow.Author.Tests.{eqb-true, eq-eqb, not-false}
use Rattle.xliff.specs.Bytes.{any}
use Rattle.xliff.specs.SetTarget.{FixedCode, Chain, same_fixed, same_chain, still, without, rearranged}
use Rattle.xliff.proofs.lists.Tests.{and_left, and_right, or_left, or_right}
use Rattle.xliff.proofs.lists.Sum.{bit, sum, one, sum_one, perm_sum}

clash : {A : Type 0} → true ≡ false → A
clash e = absurd (true≢false e)

-- Equal chains
code_path : (a b : FixedCode) → a.id ≡ b.id → a.half ≡ b.half → a.letter ≡ b.letter → a ≡ b
code_path a b p q r i = record { id = p i; half = q i; letter = r i }

same_fixed_true : (a b : FixedCode) → same_fixed a b ≡ true → a ≡ b
unfolding same_fixed
same_fixed_true a b h =
    let k = and_right (eqb a.id b.id) _ h in
    code_path a b
    (eqb-true _ _ (and_left (eqb a.id b.id) _ h))
    (eqb-true _ _ (and_left (eqb a.half b.half) _ k))
    (eqb-true _ _ (and_right (eqb a.half b.half) _ k))

pub same_chain_true : (c d : Chain) → same_chain c d ≡ true → c ≡ d
unfolding same_chain
same_chain_true [] [] h = refl
same_chain_true [] (b ∷ d) h = clash (sym h)
same_chain_true (a ∷ c) [] h = clash (sym h)
same_chain_true (a ∷ c) (b ∷ d) h =
    ap₂ ◌∷◌ (same_fixed_true a b (and_left (same_fixed a b) _ h)) (same_chain_true c d (and_right (same_fixed a b) _ h))

pub same_chain_refl : (c : Chain) → same_chain c c ≡ true
unfolding same_chain same_fixed
same_chain_refl [] = refl
same_chain_refl (a ∷ c) =
    rw (eq-eqb a.id a.id refl, eq-eqb a.half a.half refl, eq-eqb a.letter a.letter refl)
    (same_chain_refl c)

-- How often a chain stands in a list of chains: one for each that is the same
abbrev pub like : Chain → Chain → ℕ
like x d = bit (same_chain x d)

abbrev pub often : Chain → List Chain → ℕ
often x ds = sum (like x) ds

self : (x : Chain) → like x x ≡ 1
self x = rw (same_chain_refl x) refl

-- What `without` leaves
still_some : (d : Chain) (r : Option (List Chain)) (es : List Chain) → still d r ≡ some es
    → (fs : List Chain) × (r ≡ some fs) × (d ∷ fs ≡ es)
unfolding still
still_some d none es h = clash (cc)
still_some d (some fs) es h = (fs, refl, let q : d ∷ fs ≡ es = cc in q)

still_none : (d : Chain) (r : Option (List Chain)) → still d r ≡ none → r ≡ none
unfolding still
still_none d none h = refl
still_none d (some fs) h = clash (cc)

without_perm : (c : Chain) (ds es : List Chain) → without c ds ≡ some es → Permᴰ (c ∷ es) ds
unfolding without
without_perm c [] es h = clash (cc)
without_perm c (d ∷ ds) es h = by (same_chain c d) refl h (λ fs q. without_perm c ds fs q)
  where
    to_es : {l : List Chain} → l ≡ es → Permᴰ (c ∷ l) (d ∷ ds) → Permᴰ (c ∷ es) (d ∷ ds)
    to_es q p = subst (λ (l : List Chain). Permᴰ (c ∷ l) (d ∷ ds)) q p

    by : (b : Bool) → same_chain c d ≡ b → cond b (some ds) (still d (without c ds)) ≡ some es
        → ((fs : List Chain) → without c ds ≡ some fs → Permᴰ (c ∷ fs) ds) → Permᴰ (c ∷ es) (d ∷ ds)
    by true e k ih = let q : ds ≡ es = cc in to_es q (Permᴰ.cons (same_chain_true c d e) (Permᴰ.refl ds))
    by false e k ih =
        let (fs, p, q) = still_some d (without c ds) es k in
        to_es q (Permᴰ.trans (Permᴰ.swap refl refl) (Permᴰ.cons refl (ih fs p)))

without_none : (c : Chain) (ds : List Chain) → without c ds ≡ none → often c ds ≡ 0
unfolding without
without_none c [] h = refl
without_none c (d ∷ ds) h = by (same_chain c d) refl h (λ q. without_none c ds q)
  where
    by : (b : Bool) → same_chain c d ≡ b → cond b (some ds) (still d (without c ds)) ≡ none
        → (without c ds ≡ none → often c ds ≡ 0) → like c d + often c ds ≡ 0
    by true e k ih = clash (cc)
    by false e k ih = rw e (let a = ih (still_none d (without c ds) k) in omega arith)

-- A permutation has each chain as often, and as many
perm_often : (cs ds : List Chain) → Permᴰ cs ds → (x : Chain) → often x cs ≡ often x ds
perm_often cs ds p x = perm_sum (like x) cs ds p

perm_length : (cs ds : List Chain) → Permᴰ cs ds → length cs ≡ length ds
perm_length cs ds p = sym (sum_one cs) ∙ perm_sum one cs ds p ∙ sum_one ds

-- The test is true of permutations alone
pub rearranged_perm : (cs ds : List Chain) → rearranged cs ds ≡ true → Permᴰ cs ds
unfolding rearranged
rearranged_perm [] [] h = Permᴰ.nil
rearranged_perm [] (d ∷ ds) h = clash (sym h)
rearranged_perm (c ∷ cs) ds h = by (without c ds) refl h (λ es q. rearranged_perm cs es q)
  where
    by : (r : Option (List Chain)) → without c ds ≡ r → elim r [ none ↦ false | some es ↦ rearranged cs es ] ≡ true
        → ((es : List Chain) → rearranged cs es ≡ true → Permᴰ cs es) → Permᴰ (c ∷ cs) ds
    by none e k ih = clash (sym k)
    by (some es) e k ih = Permᴰ.trans (Permᴰ.cons refl (ih es k)) (without_perm c ds es e)

-- It is true where each chain of the first list stands as often in the second, and these are as many
AsOften : List Chain → List Chain → Type 0
AsOften cs ds = (x : Chain) → 1 ≤ often x cs → often x cs ≡ often x ds

counted : (cs ds : List Chain) → AsOften cs ds → length cs ≡ length ds → rearranged cs ds ≡ true
unfolding rearranged AsOften
counted [] [] h e = refl
counted [] (d ∷ ds) h e = let z : ⊥ = omega arith in absurd z
counted (c ∷ cs) ds h e = by (without c ds) refl (λ es k l. counted cs es k l)
  where
    by : (r : Option (List Chain)) → without c ds ≡ r
        → ((es : List Chain) → AsOften cs es → length cs ≡ length es → rearranged cs es ≡ true)
        → elim r [ none ↦ false | some es ↦ rearranged cs es ] ≡ true
    by none q ih =
        let once = self c in
        let there = h c (omega arith) in
        let nowhere = without_none c ds q in
        let z : ⊥ = omega arith in
        absurd z
    by (some es) q ih =
        let p = without_perm c ds es q in
        ih es
        (λ x k. let whole = h x (omega arith) in let left = perm_often (c ∷ es) ds p x in omega arith)
        (let l = perm_length (c ∷ es) ds p in omega arith)

-- so of every permutation
pub perm_rearranged : (cs ds : List Chain) → Permᴰ cs ds → rearranged cs ds ≡ true
unfolding AsOften
perm_rearranged cs ds p = counted cs ds (λ x h. perm_often cs ds p x) (perm_length cs ds p)

-- The test by counts, as the code makes it
abbrev pub uneven : List Chain → List Chain → Chain → Bool
uneven cs ds x = not (eqb (often x cs) (often x ds))

module _ (cs ds : List Chain) where
  as_often : (x : Chain) → uneven cs ds x ≡ false → often x cs ≡ often x ds
  as_often x h = eqb-true _ _ (not-false _ h)

  -- none of the chains of a list is uneven: so is none that stands there
  none_uneven : (l : List Chain) → any (uneven cs ds) l ≡ false → (x : Chain) → 1 ≤ often x l
      → often x cs ≡ often x ds
  unfolding any
  none_uneven [] h x k = let z : ⊥ = omega arith in absurd z
  none_uneven (d ∷ l) h x k = by (same_chain x d) refl k (none_uneven l (or_right (uneven cs ds d) _ h) x)
    where
      by : (b : Bool) → same_chain x d ≡ b → 1 ≤ bit b + often x l → (1 ≤ often x l → often x cs ≡ often x ds)
          → often x cs ≡ often x ds
      by true e j ih =
          as_often x (ap (uneven cs ds) (same_chain_true x d e) ∙ or_left (uneven cs ds d) _ h)
      by false e j ih = ih (omega arith)

  always : ((x : Chain) → often x cs ≡ often x ds) → (l : List Chain) → any (uneven cs ds) l ≡ false
  unfolding any
  always h [] = refl
  always h (d ∷ l) = rw (eq-eqb (often d cs) (often d ds) (h d)) (always h l)

  pub rearranged_counted : rearranged cs ds ≡ eqb (length cs) (length ds) && not (any (uneven cs ds) cs)
  unfolding AsOften
  rearranged_counted = by (rearranged cs ds) refl (eqb (length cs) (length ds)) refl (any (uneven cs ds) cs) refl
    where
      by : (r : Bool) → rearranged cs ds ≡ r → (l : Bool) → eqb (length cs) (length ds) ≡ l
          → (a : Bool) → any (uneven cs ds) cs ≡ a → r ≡ l && not a
      by true e l f a g =
          let p = rearranged_perm cs ds e in
          sym (ap₂ (λ (l a : Bool). l && not a)
          (sym f ∙ eq-eqb (length cs) (length ds) (perm_length cs ds p))
          (sym g ∙ always (perm_often cs ds p) cs))
      by false e true f false g =
          clash (sym (counted cs ds (none_uneven cs g) (eqb-true _ _ f)) ∙ e)
      by false e true f true g = refl
      by false e false f a g = refl
