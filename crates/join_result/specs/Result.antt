-- A table with two of its parts joined.
use Rattle.std.specs.Prelude.{ℕ, ◌≤◌, ◌≡◌, false, unwrap_or, List, [], ◌∷◌, ◌++◌, length}
use Rattle.std.proofs.Math.Option.{none}
use Rattle.xliff.specs.Unit.{Part, XliffUnit}
use Rattle.xliff.specs.Encode.{encode}
use Rattle.xliff.specs.Parse.{unit}
use Rattle.xliff.specs.Check.{table_refusal}
use Rattle.xliff.specs.Focus.{here, with_parts}
use Rattle.xliff.specs.Join.{join_focus}
use Rattle.writer.specs.Pieces.{Written}
use Rattle.parts.specs.Parts.{moved, ordered}
use Rattle.part_at.specs.declared.PartPlace.{PartPlace}
use Rattle.part_at.specs.Stands.{PartStands}
use Rattle.joined_part.specs.Joined.{part_bytes}

-- the part p at x and the part q at y stand side by side, the parts b before them, the parts a behind them
pub record Beside (t : List ℕ) (x y : PartPlace) (b : List Part) (p q : Part) (a : List Part) : Type 0 where
  pub first : PartStands t b p (q ∷ a) x
  pub second : PartStands t (b ++ (p ∷ [])) q a y

-- the unit with p and q in one
unfoldable pub joined_unit : XliffUnit → List Part → Part → Part → List Part → XliffUnit
joined_unit u b p q a = with_parts u (join_focus u.parts (here b p (q ∷ a)))

-- the order of the first of two parts that has a target
abbrev pub order_of_two : PartPlace → PartPlace → ℕ
order_of_two x y = unwrap_or x.order (unwrap_or y.order 0)

-- the bytes of the parts, orders above o one down, that of the joined part k
abbrev pub joined_parts : ℕ → ℕ → List Part → Part → Part → List Part → List ℕ
joined_parts o k b p q a = (ordered (moved false o) b ++ part_bytes k p q) ++ ordered (moved false o) a

abbrev pub RoomJoinedParts : ℕ → ℕ → List ℕ → PartPlace → PartPlace → List ℕ → Type 0
RoomJoinedParts o k t x y out =
    (table_refusal t ≡ none) × (b : List Part) × (p : Part) × (q : Part) × (a : List Part) × Beside t x y b p q a × (length (joined_parts o k b p q a) ≤ length out)

abbrev pub WroteJoinedParts : ℕ → ℕ → List ℕ → PartPlace → PartPlace → List ℕ → ℕ → List ℕ → Type 0
WroteJoinedParts o k t x y out n l =
    (b : List Part) (p q : Part) (a : List Part) → Beside t x y b p q a → Written (joined_parts o k b p q a) out n l

-- a valid table in which two parts stand side by side, and room for the result
abbrev pub RoomJoined : List ℕ → PartPlace → PartPlace → List ℕ → Type 0
RoomJoined t x y out =
    (table_refusal t ≡ none) × (b : List Part) × (p : Part) × (q : Part) × (a : List Part) × Beside t x y b p q a
    × (length (encode (joined_unit (unit t) b p q a)) ≤ length out)

abbrev pub WroteJoined : List ℕ → PartPlace → PartPlace → List ℕ → ℕ → List ℕ → Type 0
WroteJoined t x y out n l =
    (b : List Part) (p q : Part) (a : List Part) → Beside t x y b p q a
    → Written (encode (joined_unit (unit t) b p q a)) out n l
