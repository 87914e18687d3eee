-- The library's `starts_with` says what `begins` says.
use Prim.Native.Nat.{ℕ}
use mathlib.Core.Path.{◌≡◌, refl, ap}
use mathlib.Core.Bool.{Bool, false, ◌&&◌}
use mathlib.Core.List.{List, [], ◌∷◌}
use lib.ListN.{length, take}
use lib.Dec.{eqb}
use Rattle.std.specs.Cmp.Lexicographic.{pointwise}
use Rattle.xml.specs.Characters.{begins}

pub begins_is : (p s : List ℕ) → pointwise eqb p (take (length p) s) ≡ begins p s
unfolding begins
begins_is [] s = refl
begins_is (a ∷ p) [] = refl
begins_is (a ∷ p) (b ∷ s) = ap (λ (x : Bool). eqb a b && x) (begins_is p s)
