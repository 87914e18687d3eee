-- Joined targets and parts, with another order.
use Rattle.std.specs.Prelude.{ℕ, ◌+◌, ◌≤◌, ◌<◌, List, length}
use Rattle.xliff.specs.Unit.{Target, Part}
use Rattle.xliff.specs.Encode.{target_records, part_records, spell}
use Rattle.xliff.specs.Focus.{order_target, order_part}
use Rattle.xliff.specs.Join.{join_targets, join_parts}
use Rattle.xliff.specs.Parse.{most_bytes}
use Rattle.writer.specs.Pieces.{Written}
use Rattle.part_at.specs.declared.PartPlace.{PartPlace}
use Rattle.part_at.specs.Stands.{PartStands}
use Rattle.part_at.specs.Targets.{TargetIs}

unfoldable pub joined_target : ℕ → Target → Target → Target
joined_target o g k = order_target (λ r. o) (join_targets g k)

abbrev pub target_bytes : ℕ → Target → Target → List ℕ
target_bytes o g k = spell (target_records (joined_target o g k))

abbrev pub RoomTargets : ℕ → List ℕ → List ℕ → List ℕ → Type 0
RoomTargets o s t out =
    (g : Target) × (k : Target) × TargetIs s g × TargetIs t k × (length s + length t < 65536) × (length (target_bytes o g k) ≤ length out)

abbrev pub WroteTargets : ℕ → List ℕ → List ℕ → List ℕ → ℕ → List ℕ → Type 0
WroteTargets o s t out n l =
    (g k : Target) → TargetIs s g → TargetIs t k → Written (target_bytes o g k) out n l

-- the parts joined, the order of the target set
unfoldable pub joined_part : ℕ → Part → Part → Part
joined_part o p q = order_part (λ r. o) (join_parts p q)

abbrev pub part_bytes : ℕ → Part → Part → List ℕ
part_bytes o p q = spell (part_records (joined_part o p q))

-- two parts of a table
pub record TwoParts (t : List ℕ) (x y : PartPlace) : Type 0 where
  pub before : List Part
  pub first : Part
  pub after : List Part
  pub there : PartStands t before first after x
  pub before' : List Part
  pub second : Part
  pub after' : List Part
  pub there' : PartStands t before' second after' y

-- and room for both in one; it is written
abbrev pub RoomJoinedPart : ℕ → List ℕ → PartPlace → PartPlace → List ℕ → Type 0
RoomJoinedPart o t x y out = (v : TwoParts t x y) × (length t ≤ most_bytes) × (length (part_bytes o v.first v.second) ≤ length out)

abbrev pub WroteJoinedPart : ℕ → List ℕ → PartPlace → PartPlace → List ℕ → ℕ → List ℕ → Type 0
WroteJoinedPart o t x y out n l = (v : TwoParts t x y) → Written (part_bytes o v.first v.second) out n l
