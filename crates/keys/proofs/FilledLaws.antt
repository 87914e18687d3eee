-- A loop that fills an array from the front, each element by a function of another array's: where it stands, one step, all.
use Prim.Native.Nat.{ℕ, ◌+◌, ◌<◌, ◌≤◌}
use mathlib.Core.Path.{◌≡◌, refl, ap, ◌∙◌}
use mathlib.Core.List.{List, map}
use native.Mathlib.Omega.{arith}
use lib.ListN.{length, take, get_or, set, length-set}
use Rattle.keys.proofs.FillLaws.{filled_next, filled_all}

-- before the element i
pub record Filling (f : ℕ → ℕ) (markers before out : List ℕ) (i : ℕ) : Type 0 where
  pub within : i ≤ length markers
  pub sized : length out ≡ length before
  pub filled : take i out ≡ map f (take i markers)

pub filling_start : (f : ℕ → ℕ) (markers out : List ℕ) → Filling f markers out out 0
filling_start f markers out = record { within = omega arith; sized = refl; filled = refl }

module _ {f : ℕ → ℕ} {markers before out : List ℕ} {i : ℕ} (s : Filling f markers before out i) where
  pub filling_next : i < length markers → length markers ≤ length before → (o v : ℕ) → o ≡ get_or markers i 0 → v ≡ f o → Filling f markers before (set out i v) (i + 1)
  filling_next h room o v e g =
      record {
        within = omega arith;
        sized = length-set out i v ∙ s.sized;
        filled = ap (λ (x : ℕ). take (i + 1) (set out i x)) (g ∙ ap f e) ∙ filled_next f markers out i h (omega (arith, s.sized)) s.filled;
      }

  pub filling_all : length markers ≤ i → take i out ≡ map f markers
  filling_all h = filled_all f markers out i h s.filled
