-- The code points of a value, one by one. Stepping stones.
use Rattle.std.specs.Prelude.{ℕ, ◌≤◌, ◌<◌, ◌≡◌, List, [], ◌∷◌, length, drop, Option as RustOption, Some, None}
use Rattle.std.specs.Borrow.{Bor}
use Rattle.xml.specs.Attributes.{Word, word}
use Rattle.xml_values.specs.Values.{value_codes}
use Rattle.xml_words.specs.declared.Code.{Code}
use Rattle.xml_words.specs.declared.value.Value.{Value}

-- the code points of a value
abbrev pub codes_of : Value → List ℕ
codes_of v = value_codes v.quote 0 (drop v.start v.text.now)

-- the first code point of a value from `at` on, and the place of the rest
pub record PointRead (text : List ℕ) (at quote c next : ℕ) : Type 0 where
  pub ahead : at < next
  pub inside : next ≤ length text
  pub codes : value_codes quote 0 (drop at text) ≡ c ∷ value_codes quote 0 (drop next text)

abbrev pub CodeRead : List ℕ → ℕ → ℕ → RustOption Code → Type 0
CodeRead text at quote (Some c) = PointRead text at quote c.point c.next
CodeRead text at quote None = value_codes quote 0 (drop at text) ≡ []

-- words and their letters, as the program has them
abbrev pub spelled_out : List (Bor (List ℕ) × ℕ) → List Word
spelled_out [] = []
spelled_out (w ∷ ws) = word w.0.now w.1 ∷ spelled_out ws
