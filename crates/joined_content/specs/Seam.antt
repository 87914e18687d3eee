-- Where two contents meet.
use Rattle.std.specs.Prelude.{ℕ, Option, Some, None, ◌+◌, ◌≤◌, ◌<◌, ◌≡◌, false, List, [], ◌∷◌, ◌++◌, length}
use Rattle.xliff.specs.Item.{Content}
use Rattle.xliff.specs.Encode.{Record, text_run, spell, content_bytes}
use Rattle.walk.specs.Kept.{Kept, Of, Holds}
use Rattle.writer.specs.Pieces.{lead}

-- the last record of rs begins at n
pub record Last (rs : List Record) (n : ℕ) : Type 0 where
  pub before : List Record
  pub last : Record
  pub all : rs ≡ before ++ (last ∷ [])
  pub offset : n ≡ length (spell before)

abbrev pub LastOf : List ℕ → ℕ → Type 0
LastOf c n = (rs : List Record) → Of c rs → Last rs n

-- two texts touch, the first of them at n; else n is `end`
pub data Seam (end : ℕ) (rs qs : List Record) : ℕ → Type 0 where
  apart : Kept false (rs ++ qs) → Seam end rs qs end
  touching : (before : List Record) (cs ds : List ℕ) (others : List Record) → rs ≡ before ++ (text_run cs ∷ [])
      → qs ≡ text_run ds ∷ others → Seam end rs qs (length (spell before))

abbrev pub SeamOf : List ℕ → List ℕ → ℕ → Type 0
SeamOf a b n = (rs qs : List Record) → Of a rs → Of b qs → Seam (length a) rs qs n

-- where they touch, if they do
abbrev pub SeamFound : List ℕ → List ℕ → Option ℕ → Type 0
SeamFound a b None = SeamOf a b (length a)
SeamFound a b (Some n) = SeamOf a b n × (n < length a)

-- contents, with room for both in one
abbrev pub RoomContents : List ℕ → List ℕ → List ℕ → Type 0
RoomContents a b o = (xs ys : Content) × Holds a xs × Holds b ys × (length a + length b < 65536) ×
    (length (content_bytes (xs ++ ys)) ≤ length o)

abbrev pub WroteContents : List ℕ → List ℕ → List ℕ → ℕ → List ℕ → Type 0
WroteContents a b o n l = (xs ys : Content) → Holds a xs → Holds b ys
    → (n ≡ length (content_bytes (xs ++ ys))) × (l ≡ lead (content_bytes (xs ++ ys)) o)
