-- What a step carries from one place to the next holds behind all bytes that pass a test.
use Prim.Native.Nat.{ℕ, zero, suc, ◌+◌, ◌≤◌, ◌<◌}
use mathlib.Core.Path.{◌≡◌, subst}
use mathlib.Core.Bool.{Bool, true, false}
use mathlib.Core.List.{List}
use native.Mathlib.Omega.{arith}
use lib.ListN.{length, get_or, drop}
use borrow.Table.Steps.{cases}
use Rattle.std.specs.List.{prefix_len}
use Rattle.std.proofs.lemmas.Bool.{cases_lt}
use Rattle.std.proofs.Common.{inl, inr}
use Rattle.std.proofs.lemmas.List.Sums.{prefix_len-drop_yes, prefix_len-drop_no, prefix_len-drop_all}

-- the place behind the bytes from `at` on that pass
abbrev pub behind : (ℕ → Bool) → List ℕ → ℕ → ℕ
behind test s at = at + prefix_len test (drop at s)

-- it holds there, and the next byte does not pass
pub record EndsAt (test : ℕ → Bool) (s : List ℕ) (R : ℕ → Type 0) (at : ℕ) : Type 0 where
  pub holds : R at
  pub stops : at < length s → test (get_or s at 0) ≡ false

module _ (test : ℕ → Bool) (s : List ℕ) (R : ℕ → Type 0)
    (step : (i : ℕ) → R i → i < length s → test (get_or s i 0) ≡ true → R (i + 1)) where
  here : (at : ℕ) → R at → (at < length s → test (get_or s at 0) ≡ false) → prefix_len test (drop at s) ≡ 0
      → EndsAt test s R (behind test s at)
  here at r h e =
      subst (EndsAt test s R) (let z : at ≡ behind test s at = omega arith in z) (record { holds = r; stops = h })

  over : (at : ℕ) → R at → length s ≤ at → EndsAt test s R (behind test s at)
  over at r h = here at r (λ k. absurd (let z : ⊥ = omega arith in z)) (prefix_len-drop_all test s at h)

  by_left : (k at : ℕ) → length s ≤ at + k → R at → EndsAt test s R (behind test s at)
  by_left zero at h r = over at r (omega arith)
  by_left (suc k) at h r =
      elim (cases_lt at (length s)) [
        | inl e ↦
            cases (test (get_or s at 0))
            (λ b.
            let more = prefix_len-drop_yes test s at 0 e b in
            subst (EndsAt test s R) (let z : behind test s (at + 1) ≡ behind test s at = omega arith in z)
            (by_left k (at + 1) (omega arith) (step at r e b)))
            (λ b. here at r (λ k. b) (prefix_len-drop_no test s at 0 e b))
        | inr e ↦ over at r e
      ]

  pub ends_behind : (at : ℕ) → R at → EndsAt test s R (behind test s at)
  ends_behind at r = by_left (length s) at (omega arith) r
