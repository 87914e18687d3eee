-- An array filled one index after the other by a function of the index.
use Prim.Native.Nat.{ℕ, ◌+◌, ◌<◌}
use mathlib.Core.Path.{◌≡◌, ◌∙◌}
use mathlib.Core.List.{List}
use native.Mathlib.Omega.{arith}
use borrow.Author.Count.{below_more}
use lib.ListN.{length, get_or, set}
use lib.Seq.{get_or-set_same, get_or-set_other}

pub set_next : (f : ℕ → ℕ) (l : List ℕ) (i v : ℕ) → i < length l → v ≡ f i → ((k : ℕ) → k < i → get_or l k 0 ≡ f k)
    → (k : ℕ) → k < i + 1 → get_or (set l i v) k 0 ≡ f k
set_next f l i v h e g =
    below_more (λ k. get_or (set l i v) k 0 ≡ f k) i (λ k s. get_or-set_other l i k v 0 (λ z. omega (arith, s, z)) ∙ g k s) (get_or-set_same l i v 0 h ∙ e)
