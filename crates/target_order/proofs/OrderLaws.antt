-- The lowest order that is unused, and the order by the old target.
use Prim.Native.Nat.{ℕ, zero, suc, ◌+◌, ◌-◌, ◌≤◌, ◌<◌}
use mathlib.Core.Path.{◌≡◌, refl, sym, ap, ap₂, ◌∙◌}
use mathlib.Core.Bool.{Bool, true, false, cond}
use Rattle.std.specs.Prelude.{Some, None}
use Rattle.orders.proofs.OrderLaws.{is_not, is_is}
use mathlib.Core.List.{List}
use native.Mathlib.Omega.{arith}
use native.Mathlib.Numerals.{add-one}
use lib.ListN.{length}
use Rattle.xliff.specs.Bytes.{among}
use Rattle.xliff.specs.Unit.{Target, no_target, target, Part, orders}
use Rattle.xliff.specs.SetTarget.{lowest_unused, new_order}
use Rattle.part_at.specs.declared.PartPlace.{PartPlace}
use Rattle.part_at.specs.Stands.{TargetStands}

-- one up
module _ (used : List ℕ) (q : ℕ) where
  pub lowest_here : (k : ℕ) → 0 < k → among q used ≡ false → lowest_unused q k used ≡ q
  unfolding lowest_unused
  lowest_here zero l e = absurd (omega arith)
  lowest_here (suc k) l e = ap (λ (b : Bool). cond b (lowest_unused (suc q) k used) q) e

  pub lowest_above : (k : ℕ) → 0 < k → among q used ≡ true → lowest_unused q k used ≡ lowest_unused (q + 1) (k - 1) used
  unfolding lowest_unused
  lowest_above zero l e = absurd (omega arith)
  lowest_above (suc k) l e =
      ap (λ (b : Bool). cond b (lowest_unused (suc q) k used) q) e
      ∙ ap₂ (λ (i j : ℕ). lowest_unused i j used) (sym (add-one q)) (let z : k ≡ suc k - 1 = omega arith in z)

  pub lowest_none : (k : ℕ) → k ≤ 0 → lowest_unused q k used ≡ q
  unfolding lowest_unused
  lowest_none zero l = refl
  lowest_none (suc k) l = absurd (omega arith)

-- by the old target
module _ (t : List ℕ) (place : PartPlace) (ps : List Part) (n : ℕ) where
  pub order_kept : (g : Target) → TargetStands t place g → (q : ℕ) → place.order ≡ Some q → q ≡ new_order ps n g
  unfolding new_order
  order_kept no_target s q e = is_not (sym s.0 ∙ e)
  order_kept (target k xs) s q e = is_is (sym e ∙ s.0)

  module _ (e : place.order ≡ None) where
    pub position_unused : (g : Target) → TargetStands t place g → among n (orders ps) ≡ false → n ≡ new_order ps n g
    unfolding new_order
    position_unused no_target s u = sym (ap (λ (b : Bool). cond b (lowest_unused 1 (length ps) (orders ps)) n) u)
    position_unused (target q xs) s u = is_not (sym e ∙ s.0)

    pub position_used : (g : Target) → TargetStands t place g → among n (orders ps) ≡ true → (r k : ℕ) → r ≡ lowest_unused 1 k (orders ps) → k ≡ length ps → r ≡ new_order ps n g
    unfolding new_order
    position_used no_target s u r k h l =
        h ∙ ap (λ (j : ℕ). lowest_unused 1 j (orders ps)) l ∙ sym (ap (λ (b : Bool). cond b (lowest_unused 1 (length ps) (orders ps)) n) u)
    position_used (target q xs) s u r k h l = is_not (sym e ∙ s.0)
