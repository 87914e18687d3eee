-- The nearest index that passes a test, after a place and before it.
use Rattle.std.specs.Prelude.{ℕ, zero, suc, Bool, cond}

-- the first of the n indices from a on that passes a test; a + n where none does
unfoldable pub next : (ℕ → Bool) → ℕ → ℕ → ℕ
next p a zero = a
next p a (suc n) = cond (p a) a (next p (suc a) n)

-- the last of the indices below i that passes, plus one; 0 where none does
unfoldable pub previous : (ℕ → Bool) → ℕ → ℕ
previous p zero = 0
previous p (suc i) = cond (p i) (suc i) (previous p i)
