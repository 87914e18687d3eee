-- A written code point is read as one token of text.
use Prim.Native.Nat.{ℕ, suc, ◌+◌, ◌-◌, ◌/◌, ◌≤◌}
use mathlib.Core.Path.{◌≡◌, refl, sym, ap, ◌∙◌, subst}
use mathlib.Core.Bool.{Bool, true, false, cond}
use mathlib.Core.List.{List, [], ◌∷◌, ◌++◌}
use native.Mathlib.Omega.{arith}
use lib.ListN.{length}
use lib.Dec.{eqb, ltb}
use borrow.Author.Tests.{eqb-true, eqb-false, ne_eqb}
use Rattle.xliff.specs.Text.{xml_allows, utf8, utf8_1, utf8_2, utf8_3, utf8_4}
use Rattle.xliff.specs.Encode.{text_run}
use Rattle.xliff.proofs.lists.Tests.{and_false}
use Rattle.xliff.proofs.text.Utf8.{allowed_first_utf8}
use Rattle.xml.specs.Words.{'amp', 'lt', 'gt'}
use Rattle.xml.specs.Characters.{'<', '>', '&', '#', ']', semicolon, carriage_return, begins, found, front_character}
use Rattle.xml.specs.Tokens.{Token, char, reference, State, outside_tags, with_front, outside_step, step, tokens, Tokens·all}
use Rattle.xml.specs.Elements.{Side, Open, in_content, behind, turn, elements}
use Rattle.xml.specs.Write.{escaped}
use Rattle.xml.proofs.TagLaws.{gives}

-- the UTF-8 of a code point: itself, or a first byte from C0 on and others
pub data Spelled (c : ℕ) : List ℕ → Type 0 where
  alone : Spelled c (c ∷ [])
  several : {b : ℕ} {r : List ℕ} → 192 ≤ b → Spelled c (b ∷ r)

pub utf8_spelled : (c : ℕ) → Spelled c (utf8 c)
unfolding utf8
utf8_spelled c = by (ltb c 0x80) (ltb c 0x800) (ltb c 0x10000)
  where
    by : (x y z : Bool) → Spelled c (cond x (utf8_1 c) (cond y (utf8_2 c) (cond z (utf8_3 c) (utf8_4 c))))
    by true y z = alone
    by false true z = several {b = 0xC0 + c / 64} (omega arith)
    by false false true = several {b = 0xE0 + c / 4096} (omega arith)
    by false false false = several {b = 0xF0 + c / 262144} (omega arith)

front_utf8 : (c : ℕ) (s : List ℕ) → xml_allows c ≡ true → front_character (utf8 c ++ s) ≡ found c (length (utf8 c) - 1)
unfolding front_character
front_utf8 c s p = rw (allowed_first_utf8 c s p, front_character)

-- what follows does not make "]]>" of a bracket
pub record Safe (s : List ℕ) : Type 0 where
  pub no_end : begins ('>' ∷ []) s ≡ false
  pub no_bracket : begins (']' ∷ '>' ∷ []) s ≡ false

pub safe_tag : (s : List ℕ) → Safe ('<' ∷ s)
unfolding begins
safe_tag s = record { no_end = refl; no_bracket = refl }

-- the bytes of a character belong to one step
skips : (st : State) (r s : List ℕ) (at : ℕ) → (at' : ℕ) × (tokens st (length r) at (r ++ s) ≡ tokens st 0 at' s)
unfolding tokens
skips st [] s at = (at, refl)
skips st (b ∷ r) s at = skips st r s (suc at)

raw : (at b c : ℕ) (r s : List ℕ) → eqb b '<' ≡ false → eqb b '&' ≡ false
    → begins (']' ∷ ']' ∷ '>' ∷ []) (b ∷ (r ++ s)) ≡ false → eqb b carriage_return ≡ false
    → front_character (b ∷ (r ++ s)) ≡ found c (length r)
    → (at' : ℕ) × (tokens outside_tags 0 at (b ∷ (r ++ s)) ≡ char at c ∷ tokens outside_tags 0 at' s)
raw at b c r s p q x y f =
    let (at', e) = skips outside_tags r s (suc at) in (
      at',
      gives outside_tags (char at c ∷ []) at b (length r) (r ++ s) (unfold step outside_step with_front in rw (p, q, x, y, f))
          ∙ ap {B = List Token} (λ l. char at c ∷ l) e,
    )

raw_text : (at c : ℕ) (s : List ℕ) → xml_allows c ≡ true → eqb c '<' ≡ false → eqb c '&' ≡ false
    → eqb c carriage_return ≡ false → Safe s
    → (at' : ℕ) × (tokens outside_tags 0 at (utf8 c ++ s) ≡ char at c ∷ tokens outside_tags 0 at' s)
raw_text at c s a p q y k = by (utf8 c) (utf8_spelled c) (front_utf8 c s a)
  where
    by : (u : List ℕ) → Spelled c u → front_character (u ++ s) ≡ found c (length u - 1)
        → (at' : ℕ) × (tokens outside_tags 0 at (u ++ s) ≡ char at c ∷ tokens outside_tags 0 at' s)
    by u alone f =
        raw at c c [] s p q (unfold begins in let h = k.no_bracket in rw (h, and_false (eqb ']' c))) y f
    by u (several {b = b} {r = r} h) f =
        let e : length (b ∷ r) - 1 ≡ length r = omega arith in
        raw at b c r s (ne_eqb b 60 (omega arith)) (ne_eqb b 38 (omega arith))
        (unfold begins in rw (ne_eqb 93 b (omega arith))) (ne_eqb b 13 (omega arith)) (rw e at f)

-- a token of text
pub data TextToken (c : ℕ) : Token → Type 0 where
  is_char : {at : ℕ} → TextToken c (char at c)
  is_reference : {at : ℕ} → TextToken c (reference at c)

pub record TextRead (at c : ℕ) (s t : List ℕ) : Type 0 where
  pub token : Token
  pub is_text : TextToken c token
  pub on : ℕ
  pub read : tokens outside_tags 0 at t ≡ token ∷ tokens outside_tags 0 on s

amp_read : (at : ℕ) (s : List ℕ) → TextRead at 38 s (('&' ∷ 'amp') ++ s)
unfolding Tokens·all
amp_read at s = record { token = reference at 38; is_text = is_reference; on = suc (suc (suc (suc (suc at)))); read = refl }

lt_read : (at : ℕ) (s : List ℕ) → TextRead at 60 s (('&' ∷ 'lt') ++ s)
unfolding Tokens·all
lt_read at s = record { token = reference at 60; is_text = is_reference; on = suc (suc (suc (suc at))); read = refl }

gt_read : (at : ℕ) (s : List ℕ) → TextRead at 62 s (('&' ∷ 'gt') ++ s)
unfolding Tokens·all
gt_read at s = record { token = reference at 62; is_text = is_reference; on = suc (suc (suc (suc at))); read = refl }

return_read : (at : ℕ) (s : List ℕ) → TextRead at 13 s (('&' ∷ '#' ∷ 49 ∷ 51 ∷ semicolon ∷ []) ++ s)
unfolding Tokens·all
return_read at s = record { token = reference at 13; is_text = is_reference; on = suc (suc (suc (suc (suc at)))); read = refl }

-- A CODE POINT is read as text
pub text_read : (at c : ℕ) (s : List ℕ) → xml_allows c ≡ true → Safe s → TextRead at c s (escaped c ++ s)
unfolding escaped
text_read at c s a k = amp (eqb c '&') refl
  where
    back : (d : ℕ) (u : List ℕ) → eqb c d ≡ true → TextRead at d s (u ++ s) → TextRead at c s (u ++ s)
    back d u e r = subst (λ (x : ℕ). TextRead at x s (u ++ s)) (sym (eqb-true c d e)) r

    cr : (b : Bool) → eqb c carriage_return ≡ b → eqb c '<' ≡ false → eqb c '&' ≡ false
        → TextRead at c s (cond b ('&' ∷ '#' ∷ 49 ∷ 51 ∷ semicolon ∷ []) (utf8 c) ++ s)
    cr true e p q = back 13 ('&' ∷ '#' ∷ 49 ∷ 51 ∷ semicolon ∷ []) e (return_read at s)
    cr false e p q =
        let (at', f) = raw_text at c s a p q e k in
        record { token = char at c; is_text = is_char; on = at'; read = f }

    gt : (b : Bool) → eqb c '>' ≡ b → eqb c '<' ≡ false → eqb c '&' ≡ false
        → TextRead at c s
        (cond b ('&' ∷ 'gt') (cond (eqb c carriage_return) ('&' ∷ '#' ∷ 49 ∷ 51 ∷ semicolon ∷ []) (utf8 c)) ++ s)
    gt true e p q = back 62 ('&' ∷ 'gt') e (gt_read at s)
    gt false e p q = cr (eqb c carriage_return) refl p q

    lt : (b : Bool) → eqb c '<' ≡ b → eqb c '&' ≡ false
        → TextRead at c s
        (cond b ('&' ∷ 'lt')
        (cond (eqb c '>') ('&' ∷ 'gt') (cond (eqb c carriage_return) ('&' ∷ '#' ∷ 49 ∷ 51 ∷ semicolon ∷ []) (utf8 c))) ++ s)
    lt true e q = back 60 ('&' ∷ 'lt') e (lt_read at s)
    lt false e q = gt (eqb c '>') refl e q

    amp : (b : Bool) → eqb c '&' ≡ b
        → TextRead at c s
        (cond b ('&' ∷ 'amp')
        (cond (eqb c '<') ('&' ∷ 'lt')
        (cond (eqb c '>') ('&' ∷ 'gt') (cond (eqb c carriage_return) ('&' ∷ '#' ∷ 49 ∷ 51 ∷ semicolon ∷ []) (utf8 c))))
        ++ s)
    amp true e = back 38 ('&' ∷ 'amp') e (amp_read at s)
    amp false e = lt (eqb c '<') refl e

-- and behind it, too, no bracket gets its ">"
safe_reference : (s : List ℕ) → Safe ('&' ∷ s)
unfolding begins
safe_reference s = record { no_end = refl; no_bracket = refl }

pub safe_text : (c : ℕ) (s : List ℕ) → Safe s → Safe (escaped c ++ s)
unfolding escaped begins
safe_text c s k = by (eqb c '&') (eqb c '<') (eqb c '>') refl (eqb c carriage_return)
  where
    bytes : (u : List ℕ) → Spelled c u → eqb c '>' ≡ false → Safe (u ++ s)
    bytes u alone e =
        let g : eqb '>' c ≡ false = ne_eqb 62 c (λ q. eqb-false c 62 e (sym q)) in
        record { no_end = rw g; no_bracket = let h = k.no_end in rw (h, and_false (eqb ']' c)) }
    bytes u (several {b = b} {r = r} h) e =
        record { no_end = rw (ne_eqb 62 b (omega arith)); no_bracket = rw (ne_eqb 93 b (omega arith)) }

    by : (x y z : Bool) → eqb c '>' ≡ z → (w : Bool) → Safe (cond x ('&' ∷ 'amp') (cond y ('&' ∷ 'lt') (cond z ('&' ∷ 'gt')
        (cond w ('&' ∷ '#' ∷ 49 ∷ 51 ∷ semicolon ∷ []) (utf8 c)))) ++ s)
    by true y z e w = safe_reference _
    by false true z e w = safe_reference _
    by false false true e w = safe_reference _
    by false false false e true = safe_reference _
    by false false false e false = bytes (utf8 c) (utf8_spelled c) e

-- in a content a token of text is a code point
pub text_turn : (c : ℕ) (side : Side) (opens : List Open) (t : Token) (ts : List Token) → TextToken c t
    → elements (in_content side opens) (t ∷ ts) ≡ behind (text_run (c ∷ []) ∷ []) (elements (in_content side opens) ts)
unfolding elements turn
text_turn c side opens t ts is_char = refl
text_turn c side opens t ts is_reference = refl
