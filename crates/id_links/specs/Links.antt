-- Keys linked by the groups of their ids. A key is 64 times an id, plus what else it tells.
use Rattle.std.specs.Prelude.{ℕ, suc, ◌+◌, ◌-◌, ◌/◌, ◌%◌, ◌<◌, ◌≡◌, Bool, List, eqb, length, get_or}
use Rattle.id_links.specs.Nearest.{next, previous}

-- the group of a key: the last eight bits of its id
abbrev pub group : ℕ → ℕ
group k = k / 64 % 256

abbrev pub in_group : List ℕ → ℕ → ℕ → Bool
in_group keys g k = eqb (group (get_or keys k 0)) g

-- each key's link is the nearest before it of its group, plus one; 0 where none is
abbrev pub Linked : List ℕ → List ℕ → Type 0
Linked keys links = (k : ℕ) → k < length keys → get_or links k 0 ≡ previous (in_group keys (group (get_or keys k 0))) k

-- of each group the last key, plus one; 0 where none is
abbrev pub Headed : List ℕ → List ℕ → Type 0
Headed keys heads = (g : ℕ) → g < 256 → get_or heads g 0 ≡ previous (in_group keys g) (length keys)

-- each key's link is the nearest after it of its group, counted from the end; 0 where none is
abbrev pub LinkedAfter : List ℕ → List ℕ → Type 0
LinkedAfter keys links = (k : ℕ) → k < length keys → get_or links k 0 + next (in_group keys (group (get_or keys k 0))) (suc k) (length keys - suc k) ≡ length keys
