-- The records that a cut adds. Each is as long as a mark and a number: the TX of the second half of a text, the TG of a
-- second target.
use Rattle.std.specs.Prelude.{ℕ, ◌+◌, ◌*◌, ◌≤◌, ◌≡◌, List, length}
use Rattle.xliff.specs.Item.{Content}
use Rattle.xliff.specs.Unit.{Target, Part}
use Rattle.xliff.specs.Encode.{Record, spell, head_bytes, content_records, target_records, part_records}
use Rattle.xliff.specs.Split.{first_items, second_items, first_target, second_target, first_half, second_half}
use Rattle.walk.specs.Kept.{Holds}
use Rattle.halves_of_part.specs.Parts.{halves}
use Rattle.part_at.specs.declared.PartPlace.{PartPlace}
use Rattle.part_at.specs.Stands.{PartStands}

-- two halves have n records more than the whole, at most so many
pub record Added (most : ℕ) (whole first second : List Record) (n : ℕ) : Type 0 where
  pub bytes : length (spell first) + length (spell second) ≡ length (spell whole) + 4 * n
  pub records : length first + length second ≡ length whole + n
  pub few : n ≤ most

abbrev pub ContentAdded : ℕ → Content → ℕ → Type 0
ContentAdded k xs n = Added 1 (content_records xs) (content_records (first_items k xs)) (content_records (second_items k xs)) n

abbrev pub TargetAdded : ℕ → Target → ℕ → Type 0
TargetAdded k g n = Added 2 (target_records g) (target_records (first_target k g)) (target_records (second_target k g)) n

-- a part's second half has a head as well
pub record PartAdded (k j : ℕ) (p : Part) (n : ℕ) : Type 0 where
  pub bytes : (id : ℕ) → length (halves k j id p) ≡ length (spell (part_records p)) + length (head_bytes p.head) + 4 * n
  pub records : (id : ℕ) → length (part_records (first_half k j p)) + length (part_records (second_half k j id p)) ≡ 1 + length (part_records p) + n
  pub few : n ≤ 3

-- the answers for bytes c, whatever content they are of, and for the part at a place
abbrev pub AddedIn : List ℕ → ℕ → ℕ → Type 0
AddedIn c k n = (xs : Content) → Holds c xs → ContentAdded k xs n

abbrev pub TargetAddedIs : List ℕ → PartPlace → ℕ → ℕ → Type 0
TargetAddedIs t place k n = (b : List Part) (p : Part) (a : List Part) → PartStands t b p a place → TargetAdded k p.target n

abbrev pub AddedIs : List ℕ → PartPlace → ℕ → ℕ → ℕ → Type 0
AddedIs t place k j n = (b : List Part) (p : Part) (a : List Part) → PartStands t b p a place → PartAdded k j p n
