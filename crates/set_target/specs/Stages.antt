-- What is known on the way through the refusals of set target.
use Rattle.std.specs.Prelude.{ℕ, ◌≡◌, Bool, true, List}
use Rattle.std.proofs.Math.Option.{none}
use Rattle.xliff.specs.Unit.{Part}
use Rattle.xliff.specs.Parse.{unit}
use Rattle.xliff.specs.Check.{table_refusal}
use Rattle.xliff.specs.Focus.{here, focus}
use Rattle.xliff.specs.SetTarget.{state_fits, old_content}
use Rattle.walk.specs.Kept.{Holds}
use Rattle.part_at.specs.declared.PartPlace.{PartPlace}
use Rattle.part_at.specs.Stands.{PartStands}

-- the bytes c hold "the old target, or .. the part's source if there was none"
abbrev pub OldHeld : List ℕ → PartPlace → List ℕ → Type 0
OldHeld t place c = (b : List Part) (p : Part) (a : List Part) → PartStands t b p a place → Holds c (old_content p.source p.target)

abbrev pub StateFits : PartPlace → ℕ → Bool → Type 0
StateFits place st r = (t : List ℕ) (b : List Part) (p : Part) (a : List Part) → PartStands t b p a place → r ≡ state_fits p.head st

-- the check passes the table, and at the place stands part number n, which the state fits
abbrev pub Fitting : List ℕ → ℕ → PartPlace → ℕ → Type 0
Fitting t n place st =
    (table_refusal t ≡ none)
    × ((b : List Part) × (p : Part) × (a : List Part) × (focus (unit t).parts n ≡ here b p a) × PartStands t b p a place × (state_fits p.head st ≡ true))
