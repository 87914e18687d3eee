-- What is read of a name between two places of a text.
use Rattle.std.specs.Prelude.{ℕ, ◌-◌, ◌≤◌, ◌<◌, ◌≡◌, Bool, false, List, ◌∷◌, ◌++◌, length, take, drop, get_or}
use Rattle.xml.specs.Characters.{in_a_name}
use Rattle.xml.specs.Tokens.{in_name, in_attribute, Tag}
use Rattle.xml.specs.Places.{tokens_at}

-- the bytes of a text from one place to another
abbrev pub bytes_between : List ℕ → ℕ → ℕ → List ℕ
bytes_between s from upto = take (upto - from) (drop from s)

-- a name stands from one place of a text to another
pub record NameIn (s : List ℕ) (from upto : ℕ) : Type 0 where
  pub ordered : from ≤ upto
  pub inside : upto ≤ length s

-- a name of a tag or an attribute that has begun with the bytes a ∷ n goes on from one place to another
pub record NameRead (s : List ℕ) (from upto : ℕ) : Type 0 where
  pub low : from ≤ upto
  pub high : upto ≤ length s
  pub tag : (p : ℕ) (ends : Bool) (a : ℕ) (n : List ℕ)
      → tokens_at s (in_name p ends (a ∷ n)) from ≡ tokens_at s (in_name p ends (a ∷ (n ++ bytes_between s from upto))) upto
  pub attribute : (t : Tag) (a : ℕ) (n : List ℕ)
      → tokens_at s (in_attribute t (a ∷ n)) from ≡ tokens_at s (in_attribute t (a ∷ (n ++ bytes_between s from upto))) upto

-- and no byte that goes on with it stands behind it
pub record NameEnds (s : List ℕ) (from upto : ℕ) : Type 0 where
  pub read : NameRead s from upto
  pub stops : upto < length s → in_a_name (get_or s upto 0) ≡ false
