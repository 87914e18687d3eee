-- What is read of blanks between two places of a text.
use Rattle.std.specs.Prelude.{ℕ, ◌≤◌, ◌<◌, ◌≡◌, Bool, true, false, cond, List, length, get_or, ltb}
use Rattle.xml.specs.Characters.{is_blank}
use Rattle.xml.specs.Tokens.{Tag, in_end, in_tag, equals_due, value_due}
use Rattle.xml.specs.Places.{tokens_at}

-- blanks from one place to another, in the four states that pass over them
pub record BlanksRead (s : List ℕ) (from upto : ℕ) : Type 0 where
  pub low : from ≤ upto
  pub high : upto ≤ length s
  pub in_end_tag : (p : ℕ) (n : List ℕ) → tokens_at s (in_end p n) from ≡ tokens_at s (in_end p n) upto
  pub in_start_tag : (t : Tag) (spaced : Bool)
      → tokens_at s (in_tag t spaced) from ≡ tokens_at s (in_tag t (cond (ltb from upto) true spaced)) upto
  pub before_equals : (t : Tag) (n : List ℕ) → tokens_at s (equals_due t n) from ≡ tokens_at s (equals_due t n) upto
  pub before_value : (t : Tag) (n : List ℕ) → tokens_at s (value_due t n) from ≡ tokens_at s (value_due t n) upto

-- and no blank stands behind them
pub record BlanksEnd (s : List ℕ) (from upto : ℕ) : Type 0 where
  pub read : BlanksRead s from upto
  pub stops : upto < length s → is_blank (get_or s upto 0) ≡ false
