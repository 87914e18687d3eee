-- What is no half has no other half.
use Prim.Native.Nat.{ℕ, suc, ◌+◌, ◌-◌, ◌/◌, ◌<◌}
use mathlib.Core.Path.{◌≡◌, ◌∙◌}
use mathlib.Core.Bool.{false}
use mathlib.Core.List.{List}
use native.Mathlib.Omega.{arith}
use lib.ListN.{length, get_or}
use lib.Dec.{eqb}
use Rattle.xliff.proofs.lists.Tests.{and_false}
use Rattle.keys.specs.Keys.{half_key, is_other_key}
use Rattle.id_links.proofs.Scans.{previous_never, next_never}
use Rattle.halves.specs.Nearest.{others, half_before, half_after}

no_other : (x y : ℕ) → half_key x ≡ 0 → is_other_key x y ≡ false
no_other x y e = rw (e, and_false (eqb (x / 8) (y / 8)))

pub no_half_before : (keys : List ℕ) (i : ℕ) → half_key (get_or keys i 0) ≡ 0 → half_before keys i ≡ 0
unfolding half_before
no_half_before keys i e = previous_never (others keys i) (λ k. no_other (get_or keys i 0) (get_or keys k 0) e) i

pub no_half_after : (keys : List ℕ) (i : ℕ) → i < length keys → half_key (get_or keys i 0) ≡ 0 → half_after keys i ≡ length keys
unfolding half_after
no_half_after keys i l e =
    next_never (others keys i) (λ k. no_other (get_or keys i 0) (get_or keys k 0) e) (suc i) (length keys - suc i) ∙ (let z : suc i + (length keys - suc i) ≡ length keys = omega arith in z)
