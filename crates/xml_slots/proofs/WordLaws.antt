-- The library's == of bytes says what `equal` says; tests of numbers.
use Prim.Native.Nat.{ℕ, suc}
use mathlib.Core.Path.{◌≡◌, refl, sym, ap}
use mathlib.Core.Bool.{Bool, true, false, ◌&&◌}
use native.Mathlib.Omega.{arith}
use borrow.Author.Tests.{eqb-true, eqb-false, eq-eqb, ne_eqb}
use mathlib.Core.List.{List, [], ◌∷◌}
use lib.Dec.{eqb}
use Rattle.std.specs.Cmp.Lexicographic.{pointwise}
use Rattle.xliff.specs.Bytes.{equal}

pub eqb_swap : (a b : ℕ) → eqb a b ≡ eqb b a
eqb_swap a b = by (eqb b a) refl
  where
    by : (x : Bool) → eqb b a ≡ x → eqb a b ≡ x
    by true e = eq-eqb a b (sym (eqb-true b a e))
    by false e = ne_eqb a b (λ f. eqb-false b a e (sym f))

pub suc_eqb : (m n : ℕ) → eqb (suc m) (suc n) ≡ eqb m n
suc_eqb m n = by (eqb m n) refl
  where
    by : (x : Bool) → eqb m n ≡ x → eqb (suc m) (suc n) ≡ x
    by true e = eq-eqb (suc m) (suc n) (ap suc (eqb-true m n e))
    by false e = let apart = eqb-false m n e in ne_eqb (suc m) (suc n) (λ (f : suc m ≡ suc n). apart (omega (arith, f)))

pub equal_is : (s w : List ℕ) → pointwise eqb s w ≡ equal s w
unfolding equal
equal_is [] [] = refl
equal_is [] (b ∷ w) = refl
equal_is (a ∷ s) [] = refl
equal_is (a ∷ s) (b ∷ w) = ap (λ (x : Bool). eqb a b && x) (equal_is s w)
