-- Whether a part of a table can be cut.
use Rattle.std.specs.Prelude.{ℕ, ◌≡◌, Bool, List, length, leb, ltb}
use Rattle.xliff.specs.Item.{Content}
use Rattle.xliff.specs.Unit.{Part}
use Rattle.xliff.specs.Split.{bad_cut}
use Rattle.walk.specs.Kept.{Holds}
use Rattle.part_at.specs.declared.PartPlace.{PartPlace}
use Rattle.part_at.specs.Stands.{PartStands}

-- the answers for bytes c, whatever content they are of
abbrev pub MoreIs : List ℕ → ℕ → Bool → Type 0
MoreIs c k r = (xs : Content) → Holds c xs → r ≡ ltb k (length xs)

abbrev pub EnoughIs : List ℕ → ℕ → Bool → Type 0
EnoughIs c k r = (xs : Content) → Holds c xs → r ≡ leb k (length xs)

-- and for the part at a place
abbrev pub BadCutIs : List ℕ → PartPlace → ℕ → ℕ → Bool → Type 0
BadCutIs t place source_cut target_cut r = (b : List Part) (p : Part) (a : List Part) → PartStands t b p a place → r ≡ bad_cut p source_cut target_cut
