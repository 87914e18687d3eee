-- Whether cuts part an accent from the text before it. Stepping stones: the rule is `accent_parted` (xliff/specs/Split).
use Rattle.std.specs.Prelude.{ℕ, ◌≡◌, Bool, false, List, Option, Some, None}
use Rattle.xliff.specs.Item.{Content}
use Rattle.xliff.specs.Unit.{Part}
use Rattle.xliff.specs.Split.{cuts_off_accent, accent_parted}
use Rattle.text.specs.declared.Character.{Character}
use Rattle.walk.specs.Kept.{Holds}
use Rattle.part_at.specs.declared.PartPlace.{PartPlace}
use Rattle.part_at.specs.Stands.{PartStands}

abbrev pub accent_of : Option Character → Bool
accent_of (Some c) = c.accent
accent_of None = false

-- the answer for bytes c, whatever content they are of
abbrev pub CutsOffAccentIs : List ℕ → ℕ → Bool → Type 0
CutsOffAccentIs c k r = (xs : Content) → Holds c xs → r ≡ cuts_off_accent k xs

-- and for the part at a place
abbrev pub AccentPartedIs : List ℕ → PartPlace → ℕ → ℕ → Bool → Type 0
AccentPartedIs t place source_cut target_cut r =
    (b : List Part) (p : Part) (a : List Part) → PartStands t b p a place → r ≡ accent_parted p source_cut target_cut
