-- A table with the target of one part set, in pieces as it is written.
use Rattle.std.specs.Prelude.{ℕ, ◌+◌, ◌-◌, ◌≤◌, ◌≡◌, List, ◌∷◌, ◌++◌, length}
use Rattle.xliff.specs.Item.{Content}
use Rattle.xliff.specs.Unit.{target, Part, XliffUnit, with_state}
use Rattle.xliff.specs.Encode.{target_head, record_bytes, content_bytes, encode}
use Rattle.xliff.specs.Parse.{unit}
use Rattle.xliff.specs.Focus.{with_parts}
use Rattle.part_at.specs.declared.PartPlace.{PartPlace}
use Rattle.part_at.specs.Stands.{PartStands, Standing}
use Rattle.writer.specs.Pieces.{Written}

-- TG with the order q, then the bytes s
abbrev pub target_bytes : ℕ → List ℕ → List ℕ
target_bytes q s = record_bytes (target_head q) ++ s

-- the part p with the state st and a target
abbrev pub set_part : ℕ → ℕ → Content → Part → Part
set_part st q xs p = record { head = with_state st p.head; source = p.source; target = target q xs }

-- the unit with that part in place of p, between the parts b and a
unfoldable pub unit_with : XliffUnit → ℕ → ℕ → Content → List Part → Part → List Part → XliffUnit
unit_with u st q xs b p a = with_parts u (b ++ (set_part st q xs p ∷ a))

-- the length of its bytes, where the content has the bytes s
abbrev pub size_with : List ℕ → PartPlace → List ℕ → ℕ
size_with t place s = place.target + 4 + length s + (length t - place.end)

abbrev pub RoomSet : List ℕ → PartPlace → List ℕ → List ℕ → Type 0
RoomSet t place s out = Standing t place × (size_with t place s ≤ length out)

abbrev pub WroteSet : List ℕ → PartPlace → ℕ → ℕ → List ℕ → List ℕ → ℕ → List ℕ → Type 0
WroteSet t place q st s out n last =
    (b : List Part) (p : Part) (a : List Part) → PartStands t b p a place → (xs : Content) → content_bytes xs ≡ s
    → Written (encode (unit_with (unit t) st q xs b p a)) out n last
