-- The scan from a half away from it, over keys.
use Rattle.std.specs.Prelude.{ℕ, ◌+◌, ◌-◌, Bool, not, ◌&&◌, ◌||◌, cond, List, reverse, take, drop, eqb}
use Rattle.keys.specs.Keys.{half_key, form_key, is_other_key}
use Rattle.contents.specs.Contents.{is_bar}

-- the keys before index i (`back`), the nearest first, or after it: how many of n, the index of the one behind the
-- first j, and those behind the first j
abbrev pub steps_away : Bool → ℕ → ℕ → ℕ
steps_away back i n = cond back i (n - (i + 1))

abbrev pub index_away : Bool → ℕ → ℕ → ℕ
index_away back i j = cond back (i - (j + 1)) (i + 1 + j)

unfoldable pub away : Bool → ℕ → ℕ → List ℕ → List ℕ
away back i j keys = cond back (reverse (take (i - j) keys)) (drop (i + 1 + j) keys)

-- a bar, or a half of pc or mrk that is not the other half of x, the nearest open one
abbrev pub is_apart : ℕ → ℕ → Bool
is_apart x k = is_bar k || form_key k && (not (eqb (half_key x) (half_key k)) && not (is_other_key x k))

-- how many halves are open after one more key
abbrev pub depth_after_half : ℕ → ℕ → ℕ → ℕ
depth_after_half x k depth = cond (form_key k) (cond (eqb (half_key x) (half_key k)) (depth + 1) (depth - 1)) depth

-- PO PC MO MC
abbrev pub is_halfP : ℕ → Bool
is_halfP k = not (eqb (half_key k) 0) && form_key k

-- the open halves on a stack, the nearest first
unfoldable pub opened : ℕ → List ℕ → List ℕ
opened depth stack = reverse (take depth stack)
