-- Parts of a list, as the code takes them.
use Prim.Native.Nat.{ℕ, ◌+◌, ◌-◌, ◌≤◌}
use mathlib.Core.Path.{◌≡◌, ap, ◌∙◌}
use mathlib.Core.List.{List}
use native.Mathlib.Omega.{arith}
use lib.ListN.{length, take, drop, length-drop}
use lib.Seq.{take_all, length-take-le}

-- `&s[n..]` is the rest
pub tail_is : (n : ℕ) (s : List ℕ) → take (length s - n) (drop n s) ≡ drop n s
tail_is n s = take_all (length s - n) (drop n s) (omega (arith, length-drop n s))

pub tail_room : (l : List ℕ) (n m : ℕ) → n + m ≤ length l → m ≤ length (take (length l - n) (drop n l))
tail_room l n m h = rw (tail_is n l) (omega (arith, length-drop n l))

-- the length of `&s[a..e]`
pub slice_size : (s : List ℕ) (a n : ℕ) → a + n ≤ length s → length (take (a + n - a) (drop a s)) ≡ n
slice_size s a n h = ap (λ (j : ℕ). length (take j (drop a s))) (let z : a + n - a ≡ n = omega arith in z) ∙ length-take-le n (drop a s) (omega (arith, length-drop a s))

pub slice_long : (s : List ℕ) (a e : ℕ) → a ≤ e → e ≤ length s → length (take (e - a) (drop a s)) ≡ e - a
slice_long s a e h k = length-take-le (e - a) (drop a s) (omega (arith, length-drop a s))
