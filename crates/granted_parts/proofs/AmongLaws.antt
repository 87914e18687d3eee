-- A number among those of a list, as a test of each.
use Prim.Native.Nat.{ℕ}
use mathlib.Core.Path.{◌≡◌, refl, ap}
use mathlib.Core.Bool.{Bool, ◌||◌}
use mathlib.Core.List.{List, [], ◌∷◌}
use lib.Dec.{eqb}
use Rattle.std.specs.List.{list_any}
use Rattle.xliff.specs.Bytes.{among}

pub among_any : (n : ℕ) (ps : List ℕ) → list_any (λ p. eqb n p) ps ≡ among n ps
unfolding among
among_any n [] = refl
among_any n (p ∷ ps) = ap (λ (b : Bool). eqb n p || b) (among_any n ps)
