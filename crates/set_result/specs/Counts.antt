-- Numbers of records, and 15.
use Rattle.std.specs.Prelude.{ℕ, ◌≡◌, Bool, List, length}
use Rattle.xliff.specs.Item.{Content}
use Rattle.xliff.specs.Unit.{Part}
use Rattle.xliff.specs.Encode.{content_records, target_records}
use Rattle.xliff.specs.Parse.{unit}
use Rattle.xliff.specs.Check.{too_large}
use Rattle.walk.specs.Kept.{Holds}
use Rattle.part_at.specs.declared.PartPlace.{PartPlace}
use Rattle.part_at.specs.Stands.{PartStands}
use Rattle.set_result.specs.SetUnit.{unit_with}

-- the answer for bytes c, whatever content they are of
abbrev pub RecordsAre : List ℕ → ℕ → Type 0
RecordsAre c r = (xs : Content) → Holds c xs → r ≡ length (content_records xs)

abbrev pub OldRecordsAre : List ℕ → PartPlace → ℕ → Type 0
OldRecordsAre t place r = (b : List Part) (p : Part) (a : List Part) → PartStands t b p a place → r ≡ length (target_records p.target)

-- whatever the state and the order
abbrev pub TooLargeIs : List ℕ → PartPlace → List ℕ → ℕ → Bool → Type 0
TooLargeIs t place s room r =
    (b : List Part) (p : Part) (a : List Part) → PartStands t b p a place → (xs : Content) → Holds s xs
    → (st q : ℕ) → r ≡ too_large room (unit_with (unit t) st q xs b p a)
