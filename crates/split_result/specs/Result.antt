-- A table with one of its parts split.
use Rattle.std.specs.Prelude.{ℕ, ◌≤◌, ◌≡◌, unwrap_or, List, ◌∷◌, ◌++◌, length}
use Rattle.std.proofs.Math.Option.{none}
use Rattle.xliff.specs.Bytes.{gather}
use Rattle.xliff.specs.Unit.{Part}
use Rattle.xliff.specs.Encode.{part_records, spell, encode}
use Rattle.xliff.specs.Parse.{unit}
use Rattle.xliff.specs.Check.{table_refusal}
use Rattle.xliff.specs.Focus.{order_parts}
use Rattle.xliff.specs.Split.{split_order, first_half, second_half, split_unit}
use Rattle.writer.specs.Pieces.{Written}
use Rattle.halves_of_part.specs.Parts.{halves}
use Rattle.part_at.specs.declared.PartPlace.{PartPlace}
use Rattle.part_at.specs.Stands.{PartStands, CheckedPart}

-- the order of the part's target; without one 65535, above which no order is
abbrev pub rises_above : PartPlace → ℕ
rises_above place = unwrap_or place.order 65535

-- the parts b, p, a with p split, as `split_focus` has them
abbrev pub split_parts : ℕ → ℕ → ℕ → List Part → Part → List Part → List ℕ
split_parts k j id b p a =
    spell (gather part_records (order_parts (split_order p.target) b ++ (first_half k j p ∷ second_half k j id p ∷ order_parts (split_order p.target) a)))

-- a valid table in which a part stands at a place, and room for its halves; they are written
abbrev pub RoomSplitPart : ℕ → ℕ → ℕ → List ℕ → PartPlace → List ℕ → Type 0
RoomSplitPart k j id t place out =
    (table_refusal t ≡ none) × (b : List Part) × (p : Part) × (a : List Part) × PartStands t b p a place × (length (halves k j id p) ≤ length out)

abbrev pub WroteSplitPart : ℕ → ℕ → ℕ → List ℕ → PartPlace → List ℕ → ℕ → List ℕ → Type 0
WroteSplitPart k j id t place out n l =
    (b : List Part) (p : Part) (a : List Part) → PartStands t b p a place → Written (halves k j id p) out n l

-- the same for all parts
abbrev pub RoomSplitParts : ℕ → ℕ → ℕ → List ℕ → PartPlace → List ℕ → Type 0
RoomSplitParts k j id t place out =
    (table_refusal t ≡ none) × (b : List Part) × (p : Part) × (a : List Part) × PartStands t b p a place × (length (split_parts k j id b p a) ≤ length out)

abbrev pub WroteSplitParts : ℕ → ℕ → ℕ → List ℕ → PartPlace → List ℕ → ℕ → List ℕ → Type 0
WroteSplitParts k j id t place out n l =
    (b : List Part) (p : Part) (a : List Part) → PartStands t b p a place
    → Written (split_parts k j id b p a) out n l

-- and for the table; the part at the place has the number n
abbrev pub RoomSplit : ℕ → ℕ → ℕ → List ℕ → PartPlace → List ℕ → Type 0
RoomSplit k j id t place out = (n : ℕ) × CheckedPart t n place × (length (encode (split_unit (unit t) n k j id)) ≤ length out)

abbrev pub WroteSplit : ℕ → ℕ → ℕ → List ℕ → PartPlace → List ℕ → ℕ → List ℕ → Type 0
WroteSplit k j id t place out m l =
    (n : ℕ) → CheckedPart t n place → Written (encode (split_unit (unit t) n k j id)) out m l
