-- What stands at a place outside of tags and comments: the tokens from there on. Stepping stones.
use Rattle.std.specs.Prelude.{ℕ, ◌≤◌, ◌<◌, ◌≡◌, false, List, [], ◌∷◌, length, drop, get_or}
use Rattle.xml.specs.Characters.{'<', '>', '&', ']', carriage_return, begins}
use Rattle.xml.specs.Tokens.{Token, end_tag, char, reference, finish, fault, cut_tag, text_fault, outside_tags, in_tag}
use Rattle.xml.specs.Places.{tokens_at}
use Rattle.xml_names.specs.Names.{bytes_between, NameIn}
use Rattle.xml_piece.specs.declared.Piece.{Piece}
use Rattle.xml_piece.specs.declared.Piece.TheVariants.{Start, Close, Comment, Character, Reference, CutTag, Fault, TextFault, End}

-- the tokens of a text from a place on, outside of tags and comments
abbrev pub rest_at : List ℕ → ℕ → List Token
rest_at text at = tokens_at text outside_tags at

-- in a start tag of this place and name, from behind the name on
abbrev pub tag_at : List ℕ → ℕ → List ℕ → ℕ → List Token
tag_at text place name at = tokens_at text (in_tag (record { place = place; name = name; attributes = [] }) false) at

-- "]]>", which may not stand in text
abbrev pub text_close : List ℕ
text_close = ']' ∷ ']' ∷ '>' ∷ []

-- at a place stands neither a < nor a & nor a "]]>" nor a carriage return
pub record Plain (text : List ℕ) (at : ℕ) : Type 0 where
  pub inside : at < length text
  pub no_tag : get_or text at 0 ≡ '<' → ⊥
  pub no_reference : get_or text at 0 ≡ '&' → ⊥
  pub no_close : begins text_close (drop at text) ≡ false
  pub no_return : get_or text at 0 ≡ carriage_return → ⊥

-- the place is ahead, and inside the text
pub record Ahead (text : List ℕ) (at next : ℕ) : Type 0 where
  pub ahead : at < next
  pub inside : next ≤ length text

-- a token stands here, and the text goes on at `next`
pub record Stands (text : List ℕ) (at : ℕ) (t : Token) (next : ℕ) : Type 0 where
  pub goes : Ahead text at next
  pub same : rest_at text at ≡ t ∷ rest_at text next

abbrev pub PieceRead : List ℕ → ℕ → Piece → Type 0
PieceRead text at (Start name) =
    Ahead text at name.upto × NameIn text name.from name.upto
    × (rest_at text at ≡ tag_at text at (bytes_between text name.from name.upto) name.upto)
PieceRead text at (Close name next) =
    NameIn text name.from name.upto × Stands text at (end_tag at (bytes_between text name.from name.upto)) next
PieceRead text at (Comment next) = Ahead text at next × (rest_at text at ≡ rest_at text next)
PieceRead text at (Character c next) = (c ≤ 0x10FFFF) × Stands text at (char at c) next
PieceRead text at (Reference c next) = (c ≤ 0x10FFFF) × Stands text at (reference at c) next
PieceRead text at CutTag = rest_at text at ≡ cut_tag at (length text) ∷ []
PieceRead text at (Fault p) = rest_at text at ≡ fault p ∷ []
PieceRead text at (TextFault p) = rest_at text at ≡ text_fault at p ∷ []
PieceRead text at End = rest_at text at ≡ finish at ∷ []
