-- An answer told is the answer that it means.
use Prim.Native.Nat.{ℕ}
use mathlib.Core.Path.{◌≡◌, subst}
use mathlib.Core.Bool.{Bool}
use mathlib.Core.List.{List}
use Rattle.xliff.specs.Answer.{Answer, Outcome, answer, output}
use Rattle.grants.specs.Grant.{role_of, Grant, by_letter}
use Rattle.granted_parts.specs.declared.Role.{Role}
use Rattle.granted_parts.specs.Roles.{role_meaning, grant_of}
use Rattle.granted_parts.proofs.RoleLaws.{letter_grant}
use Rattle.desk_library.specs.Told.{told, Tells}

pub told_as : (x y : Answer) (b : Bool) (number value : ℕ) → x ≡ y → told x b number value → told y b number value
told_as x y b number value e h = subst (λ (z : Answer). told z b number value) e h

pub tells : (o : Outcome) (x : Answer) (b : Bool) (number value : ℕ) (out last : List ℕ)
    → (x ≡ answer o) × (last ≡ output o out) → told x b number value → Tells o b number value out last
tells o x b number value out last e h =
    record { answers = told_as x (answer o) b number value e.0 h; leaves = e.1 }

-- the same of an operation with a grant, where the role was read from its letter
pub tells_granted : (f : Grant → Outcome) (r : Role) (letter : ℕ) (positions : List ℕ) → role_meaning r ≡ role_of letter
    → (x : Answer) (b : Bool) (number value : ℕ) (out last : List ℕ)
    → (x ≡ answer (f (grant_of r positions))) × (last ≡ output (f (grant_of r positions)) out) → told x b number value
    → Tells (f (by_letter letter positions)) b number value out last
tells_granted f r letter positions read x b number value out last e h =
    subst (λ (g : Grant). Tells (f g) b number value out last) (letter_grant r letter positions read)
    (tells (f (grant_of r positions)) x b number value out last e h)
