-- Code points of a text counted by their first bytes. `lead`, `leads`, `further`, `sought` and `Reached` are
-- stepping stones: `sought_is` (proofs/PointLaws) ties them to the specification's text.
use Rattle.std.specs.Prelude.{ℕ, zero, suc, ◌+◌, ◌-◌, ◌≤◌, ◌≡◌, cond, List, [], ◌∷◌, get_or, length, take, drop, ltb}
use Rattle.xliff.specs.Text.{utf8s}
use Rattle.xliff.specs.Good.{Allowed}
use Rattle.text.specs.Utf8.{trail}
use Rattle.text.specs.declared.points.Points.{Points}

-- 1 for the first byte of a code point, 0 for the others
abbrev pub lead : ℕ → ℕ
lead b = cond (trail b) 0 1

-- the code points that begin in the first n bytes
unfoldable pub leads : ℕ → List ℕ → ℕ
leads zero t = 0
leads (suc n) t = lead (get_or t 0 0) + leads n (drop 1 t)

-- n bytes more
abbrev pub further : ℕ → Points → Points
further n p = record { bytes = n + p.bytes; left = p.left }

-- the bytes before code point number k, and how many code points are missing
unfoldable pub sought : List ℕ → ℕ → Points
sought [] k = record { bytes = 0; left = k }
sought (b ∷ t) k = cond (ltb k (lead b)) (record { bytes = 0; left = k }) (further 1 (sought t (k - lead b)))

-- p is on the way to code point number k of t
abbrev pub Reached : List ℕ → ℕ → Points → Type 0
Reached t k p = (p.bytes ≤ length t) × (sought t k ≡ further p.bytes (sought (drop p.bytes t) p.left))

-- the bytes of code points that XML allows
abbrev pub TextBytes : List ℕ → Type 0
TextBytes t = (cs : List ℕ) × Allowed cs × (utf8s cs ≡ t)

-- k code points of the text t passed over
abbrev pub PassedOver : List ℕ → ℕ → Points → Type 0
PassedOver t k p =
    (cs : List ℕ) → Allowed cs → utf8s cs ≡ t → (p.bytes ≡ length (utf8s (take k cs))) × (p.left ≡ k - length cs)
