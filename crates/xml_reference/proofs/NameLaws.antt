-- Whether nothing but a name is left, byte by byte.
use Prim.Native.Nat.{ℕ, ◌≤◌}
use mathlib.Core.Path.{◌≡◌, refl, ap}
use mathlib.Core.Bool.{Bool, ◌&&◌}
use mathlib.Core.List.{List, [], ◌∷◌}
use native.Mathlib.Omega.{arith}
use lib.ListN.{length, get_or, drop}
use Rattle.xml.specs.Characters.{in_a_name, continues_name, starts_name, only_name}
use Rattle.xml_reference.specs.References.{all_name}

in_name : (a : ℕ) (n t : List ℕ) → only_name (a ∷ n) t ≡ all_name t
unfolding only_name continues_name
in_name a n [] = refl
in_name a n (b ∷ t) = ap (λ (x : Bool). in_a_name b && x) (in_name b (a ∷ n) t)

pub only_is : (t : List ℕ) → 1 ≤ length t → only_name [] t ≡ starts_name (get_or t 0 0) && all_name (drop 1 t)
unfolding only_name continues_name
only_is [] h = absurd (let z : ⊥ = omega arith in z)
only_is (b ∷ t) h = ap (λ (x : Bool). starts_name b && x) (in_name b [] t)
