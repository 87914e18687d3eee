-- A written tag is read as its name and its attributes.
use Prim.Native.Nat.{ℕ, suc}
use mathlib.Core.Path.{◌≡◌, refl, sym, ap, ◌∙◌, subst}
use mathlib.Core.Bool.{Bool, true, false, not, ◌&&◌, false≢true}
use mathlib.Core.List.{List, [], ◌∷◌, ◌++◌, append_assoc, append-nil}
use native.Mathlib.Omega.{arith}
use lib.Dec.{eqb, leb}
use borrow.Author.Tests.{ne_eqb}
use Rattle.xliff.specs.Bytes.{gather}
use Rattle.xliff.proofs.lists.Tests.{and_left, and_right}
use Rattle.xml.specs.Characters.{'<', '>', '/', '=', quote, space, is_blank, begins}
use Rattle.xml.specs.Tokens.{Attribute, Token, start_tag, end_tag, Tag, State, outside_tags, in_name, in_tag, in_attribute, value_due, in_value, in_short, go, give, with_front, doubled, whole_tag, with_attribute, in_tag_step, value_character, outside_step, step, tokens, Tokens·all}
use Rattle.xml.specs.Write.{attribute_bytes, opening_tag, short_tag, closing_tag}
use Rattle.xml.proofs.LetterLaws.{ascii_front, is_letter, letters, Letter, letter, Plain, plain, plain_one, continues}

-- one step
pub goes : (st st' : State) (at b k : ℕ) (s : List ℕ) → step st at b s ≡ go st' k
    → tokens st 0 at (b ∷ s) ≡ tokens st' k (suc at) s
unfolding tokens
goes st st' at b k s e = rw (e, tokens)

pub gives : (st : State) (ts : List Token) (at b k : ℕ) (s : List ℕ) → step st at b s ≡ give ts k
    → tokens st 0 at (b ∷ s) ≡ ts ++ tokens outside_tags k (suc at) s
unfolding tokens
gives st ts at b k s e = rw (e, tokens)

-- From a state and bytes the tokens go on as from another state and other bytes, wherever that is
pub record Reach (st : State) (s : List ℕ) (st' : State) (s' : List ℕ) : Type 0 where
  pub reach : (at : ℕ) → (at' : ℕ) × (tokens st 0 at s ≡ tokens st' 0 at' s')

pub one_step : (st st' : State) (b : ℕ) (s : List ℕ) → ((at : ℕ) → step st at b s ≡ go st' 0) → Reach st (b ∷ s) st' s
one_step st st' b s e = record { reach = λ at. (suc at, goes st st' at b 0 s (e at)) }

pub more_steps : {a b c : State} {x y z : List ℕ} → Reach a x b y → Reach b y c z → Reach a x c z
more_steps p q = record { reach = λ at. let (at', e) = p.reach at in let (at'', f) = q.reach at' in (at'', e ∙ f) }

pub at_list : {a b : State} {x x' y : List ℕ} → x ≡ x' → Reach a x' b y → Reach a x b y
at_list {a} {b} {x} {x'} {y} e r = subst (λ (l : List ℕ). Reach a l b y) (sym e) r

in_names : (p : ℕ) (e : Bool) (n m : List ℕ) (s : List ℕ) → letters m ≡ true
    → Reach (in_name p e n) (m ++ s) (in_name p e (n ++ m)) s
unfolding letters
in_names p e n [] s h = record { reach = λ at. (at, ap (λ (l : List ℕ). tokens (in_name p e l) 0 at s) (sym (append-nil n))) }
in_names p e n (c ∷ m) s h =
    more_steps (one_step (in_name p e n) (in_name p e (n ++ (c ∷ []))) c (m ++ s) (one (letter c (and_left _ _ h))))
    (subst (λ (l : List ℕ). Reach (in_name p e (n ++ (c ∷ []))) (m ++ s) (in_name p e l) s) (append_assoc n (c ∷ []) m)
    (in_names p e (n ++ (c ∷ [])) m s (and_right (is_letter c) _ h)))
  where
    one : Letter c → (at : ℕ) → step (in_name p e n) at c (m ++ s) ≡ go (in_name p e (n ++ (c ∷ []))) 0
    one l at = unfold step in rw (continues n c l)

in_attributes : (t : Tag) (n m : List ℕ) (s : List ℕ) → letters m ≡ true
    → Reach (in_attribute t n) (m ++ s) (in_attribute t (n ++ m)) s
unfolding letters
in_attributes t n [] s h =
    record { reach = λ at. (at, ap (λ (l : List ℕ). tokens (in_attribute t l) 0 at s) (sym (append-nil n))) }
in_attributes t n (c ∷ m) s h =
    more_steps (one_step (in_attribute t n) (in_attribute t (n ++ (c ∷ []))) c (m ++ s) (one (letter c (and_left _ _ h))))
    (subst (λ (l : List ℕ). Reach (in_attribute t (n ++ (c ∷ []))) (m ++ s) (in_attribute t l) s) (append_assoc n (c ∷ []) m)
    (in_attributes t (n ++ (c ∷ [])) m s (and_right (is_letter c) _ h)))
  where
    one : Letter c → (at : ℕ) → step (in_attribute t n) at c (m ++ s) ≡ go (in_attribute t (n ++ (c ∷ []))) 0
    one l at = unfold step in rw (continues n c l)

-- values
in_values : (t : Tag) (n v w s : List ℕ) → plain w ≡ true → Reach (in_value t n quote v) (w ++ s) (in_value t n quote (v ++ w)) s
unfolding plain
in_values t n v [] s h =
    record { reach = λ at. (at, ap (λ (l : List ℕ). tokens (in_value t n quote l) 0 at s) (sym (append-nil v))) }
in_values t n v (c ∷ w) s h =
    more_steps
    (one_step (in_value t n quote v) (in_value t n quote (v ++ (c ∷ []))) c (w ++ s) (one (plain_one c (and_left _ _ h))))
    (subst (λ (l : List ℕ). Reach (in_value t n quote (v ++ (c ∷ []))) (w ++ s) (in_value t n quote l) s)
    (append_assoc v (c ∷ []) w)
    (in_values t n (v ++ (c ∷ [])) w s (and_right (leb 48 c && (leb c 122 && not (eqb c 60))) _ h)))
  where
    one : Plain c → (at : ℕ) → step (in_value t n quote v) at c (w ++ s) ≡ go (in_value t n quote (v ++ (c ∷ []))) 0
    one l at =
        let k = l.low in
        let h = l.high in
        unfold step with_front value_character is_blank in
        rw (
          ne_eqb c 34 (omega arith),
          l.other,
          ne_eqb c 38 (omega arith),
          ascii_front c (w ++ s) (omega arith) (omega arith),
          ne_eqb c 32 (omega arith),
          ne_eqb c 9 (omega arith),
          ne_eqb c 10 (omega arith),
          ne_eqb c 13 (omega arith),
        )

-- an attribute: its name of letters, and not empty; its value plain
unfoldable pub good_name : List ℕ → Bool
good_name [] = false
good_name (c ∷ n) = is_letter c && letters n

unfoldable pub good_attribute : Attribute → Bool
good_attribute a = good_name a.name && plain a.value

spread : (n v s : List ℕ)
    → (space ∷ (n ++ ('=' ∷ quote ∷ (v ++ (quote ∷ []))))) ++ s ≡ space ∷ (n ++ ('=' ∷ quote ∷ (v ++ (quote ∷ s))))
spread n v s = simp append_assoc

an_attribute : (t : Tag) (b : Bool) (n v s : List ℕ) → good_name n ≡ true → plain v ≡ true
    → Reach (in_tag t b) ((space ∷ (n ++ ('=' ∷ quote ∷ (v ++ (quote ∷ []))))) ++ s) (in_tag (with_attribute t n v) false) s
unfolding good_name
an_attribute t b [] v s g h = absurd (false≢true g)
an_attribute t b (c ∷ n) v s g h =
    at_list (spread (c ∷ n) v s)
    (more_steps
    (one_step (in_tag t b) (in_tag t true) space ((c ∷ n) ++ ('=' ∷ quote ∷ (v ++ (quote ∷ s))))
    (λ at. unfold step in_tag_step is_blank in refl))
    (more_steps
    (one_step (in_tag t true) (in_attribute t (c ∷ [])) c (n ++ ('=' ∷ quote ∷ (v ++ (quote ∷ s))))
    (first (letter c (and_left _ _ g))))
    (more_steps (in_attributes t (c ∷ []) n ('=' ∷ quote ∷ (v ++ (quote ∷ s))) (and_right (is_letter c) _ g))
    (more_steps
    (one_step (in_attribute t (c ∷ n)) (value_due t (c ∷ n)) '=' (quote ∷ (v ++ (quote ∷ s)))
    (λ at. unfold Tokens·all in refl))
    (more_steps
    (one_step (value_due t (c ∷ n)) (in_value t (c ∷ n) quote []) quote (v ++ (quote ∷ s))
    (λ at. unfold Tokens·all in refl))
    (more_steps (in_values t (c ∷ n) [] v (quote ∷ s) h)
    (one_step (in_value t (c ∷ n) quote v) (in_tag (with_attribute t (c ∷ n) v) false) quote s
    (λ at. unfold step in refl))))))))
  where
    first : Letter c → (at : ℕ)
        → step (in_tag t true) at c (n ++ ('=' ∷ quote ∷ (v ++ (quote ∷ s)))) ≡ go (in_attribute t (c ∷ [])) 0
    first l at =
        let k = l.low in
        let h = l.high in
        unfold step in_tag_step is_blank in
        rw (
          ne_eqb c 32 (omega arith),
          ne_eqb c 9 (omega arith),
          ne_eqb c 10 (omega arith),
          ne_eqb c 13 (omega arith),
          ne_eqb c 62 (omega arith),
          ne_eqb c 47 (omega arith),
          continues [] c l,
        )

-- the attributes of a tag
abbrev with_all : Tag → List Attribute → Tag
with_all t ats = record { place = t.place; name = t.name; attributes = t.attributes ++ ats }

unfoldable pub good_attributes : List Attribute → Bool
good_attributes [] = true
good_attributes (a ∷ ats) = good_attribute a && good_attributes ats

all_attributes : (t : Tag) (ats : List Attribute) (s : List ℕ) → good_attributes ats ≡ true
    → Reach (in_tag t false) (gather attribute_bytes ats ++ s) (in_tag (with_all t ats) false) s
unfolding good_attributes good_attribute gather attribute_bytes with_attribute
all_attributes t [] s g =
    subst (λ (l : List Attribute).
    Reach (in_tag t false) s (in_tag (record { place = t.place; name = t.name; attributes = l }) false) s)
    (sym (append-nil t.attributes)) (record { reach = λ at. (at, refl) })
all_attributes t (a ∷ ats) s g =
    at_list (append_assoc (attribute_bytes a) (gather attribute_bytes ats) s)
    (more_steps
    (an_attribute t false a.name a.value (gather attribute_bytes ats ++ s) (and_left _ _ (and_left _ _ g))
    (and_right (good_name a.name) _ (and_left _ _ g)))
    (subst (λ (l : List Attribute).
    Reach (in_tag (with_attribute t a.name a.value) false) (gather attribute_bytes ats ++ s)
    (in_tag (record { place = t.place; name = t.name; attributes = l }) false) s)
    (append_assoc t.attributes (a ∷ []) ats)
    (all_attributes (with_attribute t a.name a.value) ats s (and_right (good_attribute a) _ g))))

-- states with the same step have the same tokens
pub same_step : (st st' : State) (at b : ℕ) (s : List ℕ) → step st at b s ≡ step st' at b s
    → tokens st 0 at (b ∷ s) ≡ tokens st' 0 at (b ∷ s)
unfolding tokens
same_step st st' at b s e = rw (e, tokens)

abbrev new_tag : ℕ → List ℕ → Tag
new_tag p n = record { place = p; name = n; attributes = [] }

data Ends : ℕ → Type 0 where
  by_space : Ends space
  by_end : Ends '>'
  by_slash : Ends '/'

name_ends : (p c : ℕ) (n : List ℕ) (b : ℕ) (s : List ℕ) → Ends b
    → Reach (in_name p false (c ∷ n)) (b ∷ s) (in_tag (new_tag p (c ∷ n)) false) (b ∷ s)
unfolding Tokens·all
name_ends p c n b s by_space =
    record { reach = λ at. (at, same_step (in_name p false (c ∷ n)) (in_tag (new_tag p (c ∷ n)) false) at space s refl) }
name_ends p c n b s by_end =
    record { reach = λ at. (at, same_step (in_name p false (c ∷ n)) (in_tag (new_tag p (c ∷ n)) false) at '>' s refl) }
name_ends p c n b s by_slash =
    record { reach = λ at. (at, same_step (in_name p false (c ∷ n)) (in_tag (new_tag p (c ∷ n)) false) at '/' s refl) }

attributes_start : (p c : ℕ) (n : List ℕ) (ats : List Attribute) (b : ℕ) (s : List ℕ) → Ends b → good_attributes ats ≡ true
    → Reach (in_name p false (c ∷ n)) (gather attribute_bytes ats ++ (b ∷ s))
    (in_tag (record { place = p; name = c ∷ n; attributes = ats }) false) (b ∷ s)
unfolding gather attribute_bytes
attributes_start p c n [] b s k g = name_ends p c n b s k
attributes_start p c n (a ∷ ats) b s k g =
    more_steps (name_ends p c n space _ by_space) (all_attributes (new_tag p (c ∷ n)) (a ∷ ats) (b ∷ s) g)

-- the first step of a tag
tag_opens : (at c : ℕ) (s : List ℕ) → Letter c
    → tokens outside_tags 0 at ('<' ∷ c ∷ s) ≡ tokens (in_name at false []) 0 (suc at) (c ∷ s)
tag_opens at c s l = goes outside_tags (in_name at false []) at '<' 0 (c ∷ s) first
  where
    first : step outside_tags at '<' (c ∷ s) ≡ go (in_name at false []) 0
    first = let k = l.low in unfold step outside_step begins in rw (ne_eqb 33 c (omega arith), ne_eqb c 33 (omega arith))

spread_tag : (n : List ℕ) (ats : List Attribute) (e s : List ℕ)
    → (n ++ (gather attribute_bytes ats ++ e)) ++ s ≡ n ++ (gather attribute_bytes ats ++ (e ++ s))
spread_tag n ats e s = simp append_assoc

-- up to what ends the tag
tag_read : (at : ℕ) (n : List ℕ) (ats : List Attribute) (b : ℕ) (s : List ℕ) → Ends b → good_name n ≡ true
    → good_attributes ats ≡ true
    → (at' : ℕ)
    × (tokens outside_tags 0 at ('<' ∷ (n ++ (gather attribute_bytes ats ++ (b ∷ s))))
    ≡ tokens (in_tag (record { place = at; name = n; attributes = ats }) false) 0 at' (b ∷ s))
unfolding good_name letters
tag_read at [] ats b s k g h = absurd (false≢true g)
tag_read at (c ∷ n) ats b s k g h =
    let l = letter c (and_left _ _ g) in
    let r =
    more_steps (in_names at false [] (c ∷ n) (gather attribute_bytes ats ++ (b ∷ s)) g)
    (attributes_start at c n ats b s k h) in
    let (at', e) = r.reach (suc at) in
    (at', tag_opens at c (n ++ (gather attribute_bytes ats ++ (b ∷ s))) l ∙ e)

-- A START TAG is read as its name and its attributes; the short form as a start tag and an end tag
pub opening_read : (at : ℕ) (n : List ℕ) (ats : List Attribute) (s : List ℕ) → good_name n ≡ true
    → good_attributes ats ≡ true → doubled ats ≡ false
    → (at' : ℕ) × (tokens outside_tags 0 at (opening_tag n ats ++ s) ≡ start_tag at n ats ∷ tokens outside_tags 0 at' s)
unfolding opening_tag
opening_read at n ats s g h d =
    let (at', e) = tag_read at n ats '>' s by_end g h in (
      suc at',
      ap (λ (l : List ℕ). tokens outside_tags 0 at ('<' ∷ l)) (spread_tag n ats ('>' ∷ []) s) ∙ e
          ∙ gives (in_tag (record { place = at; name = n; attributes = ats }) false) (start_tag at n ats ∷ []) at' '>' 0 s
          (unfold step in_tag_step is_blank whole_tag in rw d),
    )

pub short_read : (at : ℕ) (n : List ℕ) (ats : List Attribute) (s : List ℕ) → good_name n ≡ true → good_attributes ats ≡ true
    → doubled ats ≡ false
    → (at' : ℕ)
    × (tokens outside_tags 0 at (short_tag n ats ++ s) ≡ start_tag at n ats ∷ end_tag at n ∷ tokens outside_tags 0 at' s)
unfolding short_tag
short_read at n ats s g h d =
    let (at', e) = tag_read at n ats '/' ('>' ∷ s) by_slash g h in
    let t : Tag = record { place = at; name = n; attributes = ats } in (
      suc (suc at'),
      ap (λ (l : List ℕ). tokens outside_tags 0 at ('<' ∷ l)) (spread_tag n ats ('/' ∷ '>' ∷ []) s) ∙ e
          ∙ goes (in_tag t false) (in_short t) at' '/' 0 ('>' ∷ s) (unfold step in_tag_step is_blank in refl)
          ∙ gives (in_short t) (start_tag at n ats ∷ end_tag at n ∷ []) (suc at') '>' 0 s (unfold step whole_tag in rw d),
    )

-- an end tag
pub closing_read : (at : ℕ) (n s : List ℕ) → good_name n ≡ true
    → (at' : ℕ) × (tokens outside_tags 0 at (closing_tag n ++ s) ≡ end_tag at n ∷ tokens outside_tags 0 at' s)
unfolding closing_tag good_name letters
closing_read at [] s g = absurd (false≢true g)
closing_read at (c ∷ n) s g =
    let r = in_names at true [] (c ∷ n) ('>' ∷ s) g in
    let (at', e) = r.reach (suc (suc at)) in (
      suc at',
      ap (λ (l : List ℕ). tokens outside_tags 0 at ('<' ∷ '/' ∷ l)) (append_assoc (c ∷ n) ('>' ∷ []) s)
          ∙ goes outside_tags (in_name at false []) at '<' 0 ('/' ∷ ((c ∷ n) ++ ('>' ∷ s)))
          (unfold step outside_step begins in refl)
          ∙ goes (in_name at false []) (in_name at true []) (suc at) '/' 0 ((c ∷ n) ++ ('>' ∷ s))
          (unfold Tokens·all in refl) ∙ e
          ∙ gives (in_name at true (c ∷ n)) (end_tag at (c ∷ n) ∷ []) at' '>' 0 s (unfold Tokens·all in refl),
    )
