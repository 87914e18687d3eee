-- A role read from its letter gives the grant of that letter.
use Prim.Native.Nat.{ℕ}
use mathlib.Core.Path.{◌≡◌, ap}
use mathlib.Core.List.{List}
use Rattle.grants.specs.Grant as grants
use Rattle.grants.specs.Grant.{role_of, by_letter}
use Rattle.granted_parts.specs.declared.Role.{Role}
use Rattle.granted_parts.specs.Roles.{role_meaning, grant_of}

pub letter_grant : (r : Role) (letter : ℕ) (positions : List ℕ) → role_meaning r ≡ role_of letter
    → grant_of r positions ≡ by_letter letter positions
unfolding by_letter
letter_grant r letter positions e = ap (λ (x : grants.Role). record { role = x; positions = positions }) e
