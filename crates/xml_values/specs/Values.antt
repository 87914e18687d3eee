-- What is read of a value between two places of a text.
use Rattle.std.specs.Prelude.{ℕ, zero, suc, ◌≤◌, ◌<◌, ◌≡◌, cond, List, [], ◌∷◌, ◌++◌, length, drop, get_or, eqb, Result, Ok, Err}
use Rattle.xml.specs.Characters.{'<', '&', Front, found, cut, wrong, front_character, front_reference}
use Rattle.xml.specs.Tokens.{cut_tag, fault, Tag, in_value, value_character}
use Rattle.xml.specs.Places.{tokens_at}
use Rattle.xml_front.specs.declared.Flaw.{Flaw}
use Rattle.xml_front.specs.declared.Flaw.TheVariants.{Cut, Wrong}

-- the front of a value that goes on
unfoldable pub value_front : List ℕ → Front
value_front [] = cut
value_front (b ∷ s) = cond (eqb b '<') wrong (cond (eqb b '&') (front_reference s) (front_character (b ∷ s)))

-- the code point that it gives
unfoldable pub value_code : ℕ → ℕ → ℕ
value_code b c = cond (eqb b '&') c (value_character c)

unfoldable pub code_then : ℕ → Front → (ℕ → List ℕ) → List ℕ
code_then b (found c more) f = value_code b c ∷ f more
code_then b cut f = []
code_then b wrong f = []

-- the code points of a value up to its quote; the number is how many bytes still belong to the one before
unfoldable pub value_codes : ℕ → ℕ → List ℕ → List ℕ
value_codes q k [] = []
value_codes q zero (b ∷ s) = cond (eqb b q) [] (code_then b (value_front (b ∷ s)) (λ more. value_codes q more s))
value_codes q (suc k) (b ∷ s) = value_codes q k s

-- a value from a place on, whose quote stands at j
pub record ValueEnds (s : List ℕ) (from q j : ℕ) : Type 0 where
  pub low : from ≤ j
  pub inside : j < length s
  pub quote : get_or s j 0 ≡ q
  pub same : (t : Tag) (n v : List ℕ)
      → tokens_at s (in_value t n q v) from ≡ tokens_at s (in_value t n q (v ++ value_codes q 0 (drop from s))) j

abbrev pub ValueRead : List ℕ → ℕ → ℕ → Result ℕ Flaw → Type 0
ValueRead s from q (Ok j) = ValueEnds s from q j
ValueRead s from q (Err Cut) = (t : Tag) (n v : List ℕ) → tokens_at s (in_value t n q v) from ≡ cut_tag t.place (length s) ∷ []
ValueRead s from q (Err Wrong) = (t : Tag) (n v : List ℕ) → tokens_at s (in_value t n q v) from ≡ fault t.place ∷ []
