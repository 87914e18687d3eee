-- XML 1.0's characters, names and references, as they stand at the front of bytes.
use Rattle.std.specs.Prelude.{ℕ, suc, ◌+◌, ◌*◌, ◌-◌, Bool, true, false, ◌&&◌, ◌||◌, cond, List, [], ◌∷◌, ◌++◌, length, take, eqb, ltb}
use Rattle.std.proofs.Math.Option.{Option, none, some}
use Rattle.xliff.specs.Bytes.{equal}
use Rattle.xliff.specs.Text.{between, xml_allows, utf8, spelled, allowed_first, Text·all}
use Rattle.xml.specs.Words.{'amp', 'lt', 'gt', 'quot', 'apos', Words·all}

-- the marks of XML's grammar
abbrev pub '<' : ℕ
'<' = 60

abbrev pub '>' : ℕ
'>' = 62

abbrev pub '/' : ℕ
'/' = 47

abbrev pub '=' : ℕ
'=' = 61

abbrev pub '&' : ℕ
'&' = 38

abbrev pub '#' : ℕ
'#' = 35

abbrev pub semicolon : ℕ
semicolon = 59

abbrev pub '!' : ℕ
'!' = 33

abbrev pub ']' : ℕ
']' = 93

abbrev pub hyphen : ℕ
hyphen = 45

abbrev pub quote : ℕ
quote = 34

abbrev pub apostrophe : ℕ
apostrophe = 39

abbrev pub space : ℕ
space = 32

abbrev pub tab : ℕ
tab = 9

abbrev pub line_feed : ℕ
line_feed = 10

abbrev pub carriage_return : ℕ
carriage_return = 13

-- XML's S
unfoldable pub is_blank : ℕ → Bool
is_blank c = eqb c space || eqb c tab || eqb c line_feed || eqb c carriage_return

-- a list begins with another
unfoldable pub begins : List ℕ → List ℕ → Bool
begins [] s = true
begins (a ∷ p) [] = false
begins (a ∷ p) (b ∷ s) = eqb a b && begins p s

-- What stands at the front of the bytes
pub data Front : Type 0 where
  -- a code point, and how many bytes it takes after the first
  found : ℕ → ℕ → Front
  -- the text ends within it
  cut : Front
  -- nothing that XML allows there
  wrong : Front

-- bytes that are the beginning of a code point's UTF-8 and not the whole of it
unfoldable pub is_scalar : ℕ → Bool
is_scalar c = ltb c 0xD800 || between 0xE000 c 0x10FFFF

unfoldable pub part_of : List ℕ → ℕ → Bool
part_of s c = is_scalar c && ltb (length s) (length (utf8 c)) && equal s (take (length s) (utf8 c))

-- if bytes can go on to a character at all, then with the lowest or with the highest bytes that go on
unfoldable pub cut_character : List ℕ → Bool
cut_character s = part_of s (spelled (s ++ (0x80 ∷ 0x80 ∷ 0x80 ∷ []))) || part_of s (spelled (s ++ (0xBF ∷ 0xBF ∷ 0xBF ∷ [])))

-- a character that XML 1.0 allows
unfoldable pub front_character : List ℕ → Front
front_character s = elim (allowed_first s) [ some c ↦ found c (length (utf8 c) - 1) | none ↦ cond (cut_character s) cut wrong ]

-- The bytes that begin a name, and those that go on with it. Of XML 1.0's productions 4 and 4a only the ASCII ones: no
-- name of the subset has another, and a tag or a reference with another is at fault
unfoldable pub starts_name : ℕ → Bool
starts_name b = between 65 b 90 || between 97 b 122 || eqb b 95 || eqb b 58

unfoldable pub in_a_name : ℕ → Bool
in_a_name b = starts_name b || between 48 b 57 || eqb b 45 || eqb b 46

-- by the name so far
unfoldable pub continues_name : List ℕ → ℕ → Bool
continues_name [] b = starts_name b
continues_name (a ∷ n) b = in_a_name b

-- nothing but a name stands here up to the text's end
unfoldable pub only_name : List ℕ → List ℕ → Bool
only_name n [] = true
only_name n (b ∷ s) = continues_name n b && only_name (b ∷ n) s

-- "the five XML entities", behind the &
unfoldable pub entity : List ℕ → Front
entity s =
    cond (begins 'amp' s) (found '&' 4) (cond (begins 'lt' s) (found '<' 3) (cond (begins 'gt' s) (found '>' 3)
    (cond (begins 'quot' s) (found quote 5) (cond (begins 'apos' s) (found apostrophe 5) (cond (only_name [] s) cut wrong)))))

-- a digit's value, decimal or hexadecimal
unfoldable pub digit_value : ℕ → ℕ → Option ℕ
digit_value base b =
    cond (between 48 b 57) (some (b - 48))
    (cond (eqb base 16 && between 65 b 70) (some (b - 55)) (cond (eqb base 16 && between 97 b 102) (some (b - 87)) none))

-- "numeric references", behind &# or &#x: whether a digit was read, the value and the size so far
unfoldable pub numeric : ℕ → Bool → ℕ → ℕ → List ℕ → Front
numeric base any value size [] = cut
numeric base any value size (b ∷ s) =
    elim (digit_value base b) [
      | some d ↦ numeric base true (value * base + d) (suc size) s
      | none ↦ cond (eqb b semicolon && any && xml_allows value) (found value size) wrong
    ]

unfoldable pub numeric_reference : List ℕ → Front
numeric_reference [] = cut
numeric_reference (b ∷ s) = cond (eqb b 120) (numeric 16 false 0 3 s) (numeric 10 false 0 2 (b ∷ s))

-- a reference, behind its &
unfoldable pub front_reference : List ℕ → Front
front_reference [] = cut
front_reference (b ∷ s) = cond (eqb b '#') (numeric_reference s) (entity (b ∷ s))

unfoldable pub Characters·all : Unit {0}
unfolding Text·all Words·all is_blank begins is_scalar part_of cut_character front_character starts_name in_a_name
    continues_name only_name entity digit_value numeric numeric_reference front_reference
Characters·all = tt
