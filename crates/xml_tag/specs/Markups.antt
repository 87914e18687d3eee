-- What is read from a < on.
use Rattle.std.specs.Prelude.{ℕ, ◌≤◌, ◌<◌, ◌≡◌, false, List, [], ◌∷◌, length}
use Rattle.xml.specs.Characters.{hyphen}
use Rattle.xml.specs.Tokens.{end_tag, fault, cut_tag, Tag, State, outside_tags, comment, in_tag}
use Rattle.xml.specs.Places.{tokens_at}
use Rattle.xml_names.specs.Names.{bytes_between, NameIn}
use Rattle.xml_tag.specs.declared.Markup.{Markup}
use Rattle.xml_tag.specs.declared.Markup.TheVariants.{Start, Close, Comment, Short, Fault}

abbrev pub hyphens : List ℕ
hyphens = hyphen ∷ hyphen ∷ []

-- a tag at a place, of a name, without attributes as yet
abbrev pub bare : ℕ → List ℕ → Tag
bare p n = record { place = p; name = n; attributes = [] }

-- the tokens from i on, in a state: a start tag up to its attributes
pub record StartRead (s : List ℕ) (st : State) (p i from upto : ℕ) : Type 0 where
  pub name : NameIn s from upto
  pub ahead : i < upto
  pub inside : upto ≤ length s
  pub same : tokens_at s st i ≡ tokens_at s (in_tag (bare p (bytes_between s from upto)) false) upto

-- an end tag
pub record CloseRead (s : List ℕ) (st : State) (p i from upto next : ℕ) : Type 0 where
  pub name : NameIn s from upto
  pub ahead : i < next
  pub inside : next ≤ length s
  pub same : tokens_at s st i ≡ end_tag p (bytes_between s from upto) ∷ tokens_at s outside_tags next

-- a comment
pub record CommentRead (s : List ℕ) (st : State) (i next : ℕ) : Type 0 where
  pub ahead : i < next
  pub inside : next ≤ length s
  pub same : tokens_at s st i ≡ tokens_at s outside_tags next

-- what is read from i on of what begins at p
abbrev pub Marked : List ℕ → State → ℕ → ℕ → Markup → Type 0
Marked s st p i (Start name) = StartRead s st p i name.from name.upto
Marked s st p i (Close name next) = CloseRead s st p i name.from name.upto next
Marked s st p i (Comment next) = CommentRead s st i next
Marked s st p i Short = tokens_at s st i ≡ cut_tag p (length s) ∷ []
Marked s st p i (Fault q) = tokens_at s st i ≡ fault q ∷ []

-- in a comment, wherever it begins
abbrev pub InComment : List ℕ → ℕ → Markup → Type 0
InComment s i r = (p : ℕ) → Marked s comment p i r
