-- The halves of a content, and two contents joined: what the writers ensure.
use Rattle.std.specs.Prelude.{ℕ, ◌≤◌, ◌≡◌, List, length}
use Rattle.xliff.specs.Item.{Content}
use Rattle.xliff.specs.Encode.{content_bytes}
use Rattle.walk.specs.Kept.{Holds}
use Rattle.writer.specs.Pieces.{lead}

-- c is a content
abbrev pub Some : List ℕ → Type 0
Some c = (xs : Content) × Holds c xs

-- c is a content, with room in o for what f makes of it
abbrev pub RoomFor : (Content → Content) → List ℕ → List ℕ → Type 0
RoomFor f c o = (xs : Content) × Holds c xs × (length (content_bytes (f xs)) ≤ length o)

-- the answer n and the output l are those of what f makes of the content
abbrev pub WroteFor : (Content → Content) → List ℕ → List ℕ → ℕ → List ℕ → Type 0
WroteFor f c o n l = (xs : Content) → Holds c xs → (n ≡ length (content_bytes (f xs))) × (l ≡ lead (content_bytes (f xs)) o)
