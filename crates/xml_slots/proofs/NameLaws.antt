-- The names of attributes: whether one stands among others, and where.
use Prim.Native.Nat.{ℕ, suc, ◌+◌, ◌≤◌, ◌<◌}
use mathlib.Core.Path.{◌≡◌, refl, ap, ap₂}
use mathlib.Core.Bool.{Bool, true, false, not, ◌&&◌, ◌||◌, cond}
use mathlib.Core.List.{List, [], ◌∷◌, ◌++◌}
use mathlib.Core.Option.{none, some}
use native.Mathlib.Omega.{arith}
use lib.ListN.{length}
use Rattle.xliff.specs.Bytes.{equal, any}
use Rattle.xliff.proofs.lists.Tests.{or_left, or_right}
use Rattle.xml.specs.Tokens.{Attribute}
use Rattle.xml.specs.Attributes.{named, value_of}
use Rattle.xml_slots.specs.Slots.{index_of}
use Rattle.xml_slots.proofs.WordLaws.{eqb_swap}

pub equal_swap : (s t : List ℕ) → equal s t ≡ equal t s
unfolding equal
equal_swap [] [] = refl
equal_swap [] (b ∷ t) = refl
equal_swap (a ∷ s) [] = refl
equal_swap (a ∷ s) (b ∷ t) = ap₂ ◌&&◌ (eqb_swap a b) (equal_swap s t)

-- names, none of them twice
unfoldable pub none_twice : List (List ℕ) → Bool
none_twice [] = true
none_twice (n ∷ ns) = not (named ns n) && none_twice ns

-- an attribute of this name
abbrev pub stands_in : List ℕ → List Attribute → Bool
stands_in n ats = any (λ (b : Attribute). equal n b.name) ats

pub not_there : (n : List ℕ) (ats : List Attribute) → stands_in n ats ≡ false → value_of n ats ≡ none
unfolding any value_of
not_there n [] h = refl
not_there n (b ∷ ats) h = rw (or_left (equal n b.name) _ h) (not_there n ats (or_right (equal n b.name) _ h))

pub absent_there : (n : List ℕ) (ats : List Attribute) → value_of n ats ≡ none → stands_in n ats ≡ false
unfolding any value_of
absent_there n [] h = refl
absent_there n (b ∷ ats) h = by (equal n b.name) h (λ k. absent_there n ats k)
  where
    by : (x : Bool) → cond x (some b.value) (value_of n ats) ≡ none → (value_of n ats ≡ none → stands_in n ats ≡ false)
        → x || stands_in n ats ≡ false
    by true h ih = absurd (let z : ◌≡◌ {A = ℕ} 0 1 = cc in omega arith)
    by false h ih = ih h

-- the place of a name among names
pub index_most : (ns : List (List ℕ)) (n : List ℕ) → index_of ns n ≤ length ns
unfolding index_of
index_most [] n = omega arith
index_most (m ∷ ns) n = by (equal n m) (index_most ns n)
  where
    by : (x : Bool) → index_of ns n ≤ length ns → cond x 0 (suc (index_of ns n)) ≤ suc (length ns)
    by true h = omega arith
    by false h = omega arith

pub named_below : (ns : List (List ℕ)) (n : List ℕ) → index_of ns n < length ns → named ns n ≡ true
unfolding index_of named any
named_below [] n h = absurd (let z : ⊥ = omega arith in z)
named_below (m ∷ ns) n h = by (equal n m) h (λ k. named_below ns n k)
  where
    by : (x : Bool) → cond x 0 (suc (index_of ns n)) < suc (length ns) → (index_of ns n < length ns → any (equal n) ns ≡ true)
        → x || any (equal n) ns ≡ true
    by true h ih = refl
    by false h ih = ih (omega arith)

pub unnamed : (ns : List (List ℕ)) (n : List ℕ) → length ns ≤ index_of ns n → named ns n ≡ false
unfolding index_of named any
unnamed [] n h = refl
unnamed (m ∷ ns) n h = by (equal n m) h (λ k. unnamed ns n k)
  where
    by : (x : Bool) → suc (length ns) ≤ cond x 0 (suc (index_of ns n)) → (length ns ≤ index_of ns n → any (equal n) ns ≡ false)
        → x || any (equal n) ns ≡ false
    by true h ih = absurd (let z : ⊥ = omega arith in z)
    by false h ih = ih (omega arith)
