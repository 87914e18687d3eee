-- The markers of the targets by their TG records.
use Rattle.std.specs.Prelude.{ℕ, ◌+◌, ◌<◌, ◌≡◌, true, cond, List, [], ◌∷◌, ◌++◌, map, length, get_or, eqb}
use Rattle.xliff.specs.Encode.{Record, opening, closing, part_head, target_head, text_run, inline, ill_text, broken, record_bytes, unit_records}
use Rattle.xliff.specs.Parse.{unit}
use Rattle.places.specs.Found.{marker}
use Rattle.sequences.specs.Marks.{places}

-- a TG: its offset, its order, and the records behind it
pub record TargetHead : Type 0 where
  pub at : ℕ
  pub order : ℕ
  pub behind : List Record

unfoldable pub head_here : ℕ → Record → List Record → List TargetHead
head_here at (opening c) rs = []
head_here at closing rs = []
head_here at (part_head h) rs = []
head_here at (target_head q) rs = record { at = at; order = q; behind = rs } ∷ []
head_here at (text_run cs) rs = []
head_here at (inline x) rs = []
head_here at ill_text rs = []
head_here at (broken b) rs = []

unfoldable pub heads_from : ℕ → List Record → List TargetHead
heads_from at [] = []
heads_from at (r ∷ rs) = head_here at r rs ++ heads_from (at + length (record_bytes r)) rs

-- the TG records of a table, in its order
unfoldable pub heads_of : List ℕ → List TargetHead
heads_of t = heads_from 0 (unit_records (unit t))

unfoldable pub head_offsets : List ℕ → List ℕ
head_offsets t = map (λ (h : TargetHead). h.at) (heads_of t)

unfoldable pub head_number : List ℕ → ℕ → TargetHead
head_number t i = get_or (heads_of t) i (record { at = 0; order = 0; behind = [] })

-- the offsets of the markers of a content from an offset on: those up to the next head
unfoldable pub content_marks : ℕ → List Record → List ℕ
content_marks at [] = []
content_marks at (opening c ∷ rs) = content_marks (at + length (record_bytes (opening c))) rs
content_marks at (closing ∷ rs) = content_marks (at + length (record_bytes closing)) rs
content_marks at (part_head h ∷ rs) = []
content_marks at (target_head q ∷ rs) = []
content_marks at (text_run cs ∷ rs) = content_marks (at + length (record_bytes (text_run cs))) rs
content_marks at (inline x ∷ rs) = places (marker true (record { item = x; at = at })) ++ content_marks (at + length (record_bytes (inline x))) rs
content_marks at (ill_text ∷ rs) = content_marks (at + length (record_bytes ill_text)) rs
content_marks at (broken b ∷ rs) = content_marks (at + length (record_bytes (broken b))) rs

-- the markers of a target, if its order is q
unfoldable pub of_order : ℕ → TargetHead → List ℕ
of_order q h = cond (eqb q h.order) (content_marks (h.at + length (record_bytes (target_head h.order))) h.behind) []

-- an array that holds the orders of the first n of them
abbrev pub Ordered : List ℕ → ℕ → List ℕ → Type 0
Ordered t n out = (k : ℕ) → k < n → get_or out k 0 ≡ (head_number t k).order
