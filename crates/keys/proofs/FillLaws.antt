-- An array filled from the front, each element by a function of another array's.
use Prim.Native.Nat.{ℕ, suc, ◌+◌, ◌<◌, ◌≤◌}
use mathlib.Core.Path.{◌≡◌, sym, ap, ◌∙◌}
use mathlib.Core.List.{List, [], ◌∷◌, ◌++◌, map}
use native.Mathlib.Omega.{arith}
use lib.ListN.{length, take, get_or, set}
use lib.Seq.{take-suc, take-suc-set, take_all}
use Rattle.xliff.proofs.lists.Tests.{map-append}

module _ (f : ℕ → ℕ) (markers out : List ℕ) where
  pub filled_next : (i : ℕ) → i < length markers → i < length out → take i out ≡ map f (take i markers)
      → take (i + 1) (set out i (f (get_or markers i 0))) ≡ map f (take (i + 1) markers)
  filled_next i h k e =
      ap (λ (n : ℕ). take n (set out i (f (get_or markers i 0)))) (let z : i + 1 ≡ suc i = omega arith in z)
      ∙ take-suc-set out i (f (get_or markers i 0)) k
      ∙ ap (λ (l : List ℕ). l ++ (f (get_or markers i 0) ∷ [])) e
      ∙ sym (map-append f (take i markers) (get_or markers i 0 ∷ []))
      ∙ ap (map f) (sym (take-suc markers i 0 h))
      ∙ ap (λ (n : ℕ). map f (take n markers)) (let z : suc i ≡ i + 1 = omega arith in z)

  pub filled_all : (i : ℕ) → length markers ≤ i → take i out ≡ map f (take i markers) → take i out ≡ map f markers
  filled_all i h e = e ∙ ap (map f) (take_all i markers h)
