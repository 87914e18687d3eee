-- The bytes of a part, in pieces: its head, its source content, its target.
use Rattle.std.specs.Prelude.{ℕ, ◌≤◌, ◌<◌, ◌≡◌, List, ◌++◌, length}
use Rattle.xliff.specs.Unit.{Target, no_target, target, Part}
use Rattle.xliff.specs.Encode.{head_bytes, target_records, part_records, spell}
use Rattle.xliff.specs.Split.{first_half, second_half}
use Rattle.walk.specs.Kept.{Holds}
use Rattle.writer.specs.Pieces.{Written}
use Rattle.part_at.specs.Targets.{TargetIs}

abbrev pub PartIs : List ℕ → List ℕ → List ℕ → Part → Type 0
PartIs h s t p = (head_bytes p.head ≡ h) × Holds s p.source × TargetIs t p.target

-- the order can rise
abbrev pub Rises : Target → Type 0
Rises no_target = Unit {0}
Rises (target q xs) = q < 65535

-- room for what f makes of the target; it is written
abbrev pub RoomTarget : (Target → Target) → List ℕ → List ℕ → Type 0
RoomTarget f t o = (g : Target) × TargetIs t g × Rises g × (length (spell (target_records (f g))) ≤ length o)

abbrev pub WroteTarget : (Target → Target) → List ℕ → List ℕ → ℕ → List ℕ → Type 0
WroteTarget f t o n l = (g : Target) → TargetIs t g → Written (spell (target_records (f g))) o n l

-- the same for a part
abbrev pub RoomHalf : (Part → Part) → List ℕ → List ℕ → List ℕ → List ℕ → Type 0
RoomHalf f h s t o = (p : Part) × PartIs h s t p × Rises p.target × (length (spell (part_records (f p))) ≤ length o)

abbrev pub WroteHalf : (Part → Part) → List ℕ → List ℕ → List ℕ → List ℕ → ℕ → List ℕ → Type 0
WroteHalf f h s t o n l = (p : Part) → PartIs h s t p → Written (spell (part_records (f p))) o n l

-- both halves of a part, as `split_focus` has them
abbrev pub halves : ℕ → ℕ → ℕ → Part → List ℕ
halves k j id p = spell (part_records (first_half k j p) ++ part_records (second_half k j id p))

abbrev pub RoomHalves : ℕ → ℕ → ℕ → List ℕ → List ℕ → List ℕ → List ℕ → Type 0
RoomHalves k j id h s t o = (p : Part) × PartIs h s t p × Rises p.target × (length (halves k j id p) ≤ length o)

abbrev pub WroteHalves : ℕ → ℕ → ℕ → List ℕ → List ℕ → List ℕ → List ℕ → ℕ → List ℕ → Type 0
WroteHalves k j id h s t o n l = (p : Part) → PartIs h s t p → Written (halves k j id p) o n l
