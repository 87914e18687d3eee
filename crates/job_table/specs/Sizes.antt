-- The size of a record that is whole. A stepping stone: `whole_size` of crates/xliff/specs/Desk.antt is `whole_of` of
-- the size by the mark.
use Rattle.std.specs.Prelude.{ℕ, ◌≡◌, ◌≤◌, cond, Option, Some, None, List}
use Rattle.xliff.specs.Bytes.{enough}

-- n, if there are so many bytes, else 0
unfoldable pub whole_of : ℕ → List ℕ → ℕ
whole_of n s = cond (enough n s) n 0

-- the size that was found is the specification's n: none where n is 0
abbrev pub SizeIs : Option ℕ → ℕ → Type 0
SizeIs None n = n ≡ 0
SizeIs (Some k) n = (n ≡ k) × (1 ≤ k)
