-- XML 1.0's grammar on bytes: tags, characters and references, up to the text's end or the first fault. Comments give
-- no token.
use Rattle.std.specs.Prelude.{ℕ, zero, suc, ◌+◌, Bool, true, false, not, ◌&&◌, ◌||◌, cond, List, [], ◌∷◌, ◌++◌, length, eqb}
use Rattle.xliff.specs.Bytes.{equal, any}
use Rattle.xml.specs.Characters.{'<', '>', '/', '=', '&', '!', ']', hyphen, quote, apostrophe, space, line_feed, carriage_return, is_blank, begins, Front, found, cut, wrong, front_character, continues_name, front_reference, Characters·all}

-- an attribute: its name and its value, as code points, references read
pub record Attribute : Type 0 where
  pub name : List ℕ
  pub value : List ℕ

pub data Token : Type 0 where
  -- a start tag: its place, name and attributes. The short form <x/> is a start tag and an end tag of one place
  start_tag : ℕ → List ℕ → List Attribute → Token
  -- an end tag: its place and name
  end_tag : ℕ → List ℕ → Token
  -- a character, a line end as one line feed: its place, the code point
  char : ℕ → ℕ → Token
  -- a reference in text: its place, the code point
  reference : ℕ → ℕ → Token
  -- the last: the text's end, outside of tags, references and comments
  finish : ℕ → Token
  -- the last: a tag or a comment is at fault, or a comment is cut: the place blamed
  fault : ℕ → Token
  -- the last: the text's end cuts a tag: where the tag begins, and the end
  cut_tag : ℕ → ℕ → Token
  -- the last: a reference or a character is at fault or cut: where it begins, and the place blamed where text may stand
  text_fault : ℕ → ℕ → Token

-- what was read of a tag
pub record Tag : Type 0 where
  pub place : ℕ
  pub name : List ℕ
  pub attributes : List Attribute

-- where in the grammar the bytes stand
pub data State : Type 0 where
  -- outside of tags and comments
  outside_tags : State
  -- in a comment
  comment : State
  -- in the name of a tag: the tag's place, whether it is an end tag, the name so far
  in_name : ℕ → Bool → List ℕ → State
  -- behind the name of an end tag
  in_end : ℕ → List ℕ → State
  -- in a start tag, between its attributes: whether directly after a blank
  in_tag : Tag → Bool → State
  -- in an attribute's name; behind it; behind its =; in its value, with the mark that ends it
  in_attribute : Tag → List ℕ → State
  equals_due : Tag → List ℕ → State
  value_due : Tag → List ℕ → State
  in_value : Tag → List ℕ → ℕ → List ℕ → State
  -- behind the / of a short form
  in_short : Tag → State

-- what a byte makes of a state
pub data Move : Type 0 where
  -- the next state, and how many more bytes belong to this step
  go : State → ℕ → Move
  -- tokens, and the same; the next state is `outside_tags`
  give : List Token → ℕ → Move
  -- the last token
  stop : Token → Move

-- what stands at the front of s, at a place: what is made of it, of a cut text, whose place is its end, and of what is
-- wrong
unfoldable pub with_front : Front → ℕ → List ℕ → (ℕ → Token) → Token → (ℕ → ℕ → Move) → Move
with_front (found c more) at s cut_at blamed f = f c more
with_front cut at s cut_at blamed f = stop (cut_at (at + length s))
with_front wrong at s cut_at blamed f = stop blamed

-- "an attribute twice" is against XML 1.0
unfoldable pub doubled : List Attribute → Bool
doubled [] = false
doubled (a ∷ ats) = any (λ (b : Attribute). equal a.name b.name) ats || doubled ats

-- a tag that is whole
unfoldable pub whole_tag : Tag → List Token → Move
whole_tag t more =
    cond (doubled t.attributes) (stop (fault t.place))
    (give (start_tag t.place t.name t.attributes ∷ more) 0)

unfoldable pub with_attribute : Tag → List ℕ → List ℕ → Tag
with_attribute t n v =
    record { place = t.place; name = t.name; attributes = t.attributes ++ (record { name = n; value = v } ∷ []) }

-- between the attributes of a start tag
unfoldable pub in_tag_step : Tag → Bool → ℕ → Move
in_tag_step t spaced b =
    cond (is_blank b) (go (in_tag t true) 0) (cond (eqb b '>') (whole_tag t []) (cond (eqb b '/') (go (in_short t) 0)
    (cond (spaced && continues_name [] b) (go (in_attribute t (b ∷ [])) 0) (stop (fault t.place)))))

unfoldable pub in_end_step : ℕ → List ℕ → ℕ → Move
in_end_step place n b =
    cond (is_blank b) (go (in_end place n) 0) (cond (eqb b '>') (give (end_tag place n ∷ []) 0) (stop (fault place)))

-- behind a name: what may follow it
unfoldable pub behind_name : ℕ → Bool → List ℕ → ℕ → Move
behind_name place ends [] b = cond (not ends && eqb b '/') (go (in_name place true []) 0) (stop (fault place))
behind_name place true (a ∷ n) b = in_end_step place (a ∷ n) b
behind_name place false (a ∷ n) b = in_tag_step (record { place = place; name = a ∷ n; attributes = [] }) false b

unfoldable pub equals_step : Tag → List ℕ → ℕ → Move
equals_step t n b = cond (is_blank b) (go (equals_due t n) 0) (cond (eqb b '=') (go (value_due t n) 0) (stop (fault t.place)))

-- XML 1.0, 3.3.3: a tab or a line end in a value is a blank
unfoldable pub value_character : ℕ → ℕ
value_character c = cond (is_blank c) space c

-- a comment ends with the first -->; any other -- is blamed
unfoldable pub comment_step : ℕ → List ℕ → Move
comment_step at s =
    cond (begins (hyphen ∷ hyphen ∷ []) s)
    (cond (begins (hyphen ∷ hyphen ∷ '>' ∷ []) s) (go outside_tags 2)
    (cond (equal s (hyphen ∷ hyphen ∷ [])) (stop (fault (at + length s))) (stop (fault at))))
    (with_front (front_character s) at s fault (fault at) (λ c more. go comment more))

abbrev pub comment_opens : List ℕ
comment_opens = '!' ∷ hyphen ∷ hyphen ∷ []

-- outside of tags. "]]>" in text is against XML 1.0; XML 1.0, 2.11: a line end, CR LF or CR, is read as one line feed
unfoldable pub outside_step : ℕ → ℕ → List ℕ → Move
outside_step at b s =
    cond (eqb b '<')
    (cond (begins comment_opens s) (go comment 3)
    (cond (begins s comment_opens) (stop (fault (at + length (b ∷ s)))) (go (in_name at false []) 0)))
    (cond (eqb b '&')
    (with_front (front_reference s) at (b ∷ s) (text_fault at) (text_fault at at)
    (λ c more. give (reference at c ∷ []) more))
    (cond (begins (']' ∷ ']' ∷ '>' ∷ []) (b ∷ s)) (stop (text_fault at at))
    (cond (eqb b carriage_return) (give (char at line_feed ∷ []) (cond (begins (line_feed ∷ []) s) 1 0))
    (with_front (front_character (b ∷ s)) at (b ∷ s) (text_fault at) (text_fault at at)
    (λ c more. give (char at c ∷ []) more)))))

-- one step, at a place, on the byte b with s behind it
unfoldable pub step : State → ℕ → ℕ → List ℕ → Move
step outside_tags at b s = outside_step at b s
step comment at b s = comment_step at (b ∷ s)
step (in_name place ends n) at b s =
    cond (continues_name n b) (go (in_name place ends (n ++ (b ∷ []))) 0) (behind_name place ends n b)
step (in_end place n) at b s = in_end_step place n b
step (in_tag t spaced) at b s = in_tag_step t spaced b
step (in_attribute t n) at b s = cond (continues_name n b) (go (in_attribute t (n ++ (b ∷ []))) 0) (equals_step t n b)
step (equals_due t n) at b s = equals_step t n b
step (value_due t n) at b s =
    cond (is_blank b) (go (value_due t n) 0)
    (cond (eqb b quote || eqb b apostrophe) (go (in_value t n b []) 0) (stop (fault t.place)))
step (in_value t n q v) at b s =
    cond (eqb b q) (go (in_tag (with_attribute t n v) false) 0)
    (cond (eqb b '<') (stop (fault t.place))
    (with_front (cond (eqb b '&') (front_reference s) (front_character (b ∷ s))) at (b ∷ s) (cut_tag t.place)
    (fault t.place) (λ c more. go (in_value t n q (v ++ (cond (eqb b '&') c (value_character c) ∷ []))) more)))
step (in_short t) at b s = cond (eqb b '>') (whole_tag t (end_tag t.place t.name ∷ [])) (stop (fault t.place))

-- where the text ends outside of tags and comments it is whole, else cut
unfoldable pub at_end : State → ℕ → Token
at_end outside_tags at = finish at
at_end comment at = fault at
at_end (in_name place ends n) at = cut_tag place at
at_end (in_end place n) at = cut_tag place at
at_end (in_tag t spaced) at = cut_tag t.place at
at_end (in_attribute t n) at = cut_tag t.place at
at_end (equals_due t n) at = cut_tag t.place at
at_end (value_due t n) at = cut_tag t.place at
at_end (in_value t n q v) at = cut_tag t.place at
at_end (in_short t) at = cut_tag t.place at

-- The tokens of the bytes from a place on; the number before it is how many bytes still belong to the step before
unfoldable pub tokens : State → ℕ → ℕ → List ℕ → List Token
tokens st k at [] = at_end st at ∷ []
tokens st zero at (b ∷ s) =
    elim (step st at b s) [
      | go st' more ↦ tokens st' more (suc at) s
      | give ts more ↦ ts ++ tokens outside_tags more (suc at) s
      | stop t ↦ t ∷ []
    ]
tokens st (suc k) at (b ∷ s) = tokens st k (suc at) s

unfoldable pub Tokens·all : Unit {0}
unfolding Characters·all with_front doubled whole_tag with_attribute in_tag_step in_end_step behind_name equals_step
    value_character comment_step outside_step step at_end tokens
Tokens·all = tt
