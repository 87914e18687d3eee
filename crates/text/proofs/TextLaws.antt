-- The reader's UTF-8 is the specification's.
use Prim.Native.Nat.{ℕ, ◌≤◌}
use mathlib.Core.Path.{◌≡◌, refl, sym, ◌∙◌, ap, ap₂, subst}
use mathlib.Core.Bool.{Bool, true, false, ◌||◌, true≢false}
use mathlib.Core.List.{List, [], ◌∷◌, ◌++◌}
use mathlib.Core.Option.{Option, some, none}
use native.Mathlib.Omega.{arith}
use borrow.Author.Tests.{leb-true, le-leb, lt-leb, ne_eqb}
use lib.ListN.{length, take, drop, take-append-drop}
use lib.Seq.{length-take-le}
use lib.Dec.{leb, eqb}
use Rattle.xliff.specs.Bytes.{gather}
use Rattle.xliff.specs.Text as spec
use Rattle.xliff.specs.Text.{between, xml_allows, is_accent, text_codes}
use Rattle.xliff.specs.Good.{Allowed, no_text, one_point}
use Rattle.xliff.proofs.text.Utf8.{allowed_bound, text_of_utf8s, text_of_some}
use Rattle.text.specs.Utf8.{utf8, utf8s, scalar, within, xml_char, character, point_of, char_of, codes, all_xml, some_xml, text_ok, all_scalar}
use Rattle.xliff.proofs.lists.Tests.{and_left, and_right}
use borrow.Table.Steps.{cases}
use Rattle.text.proofs.Utf8Laws.{point_accent, char_width}
use Rattle.text.proofs.Coding.{encoded, decoded, read_scalar, codes_of_bytes, bytes_of_codes}

or_apart : (x p q r : Bool) → x || (p || q || r) ≡ x || p || q || r
or_apart true p q r = refl
or_apart false p q r = refl

pub xml_same : (c : ℕ) → xml_char c ≡ xml_allows c
unfolding xml_allows between
xml_same c = or_apart (eqb c 9 || eqb c 10 || eqb c 13) (within 0x20 0xD7FF c) (within 0xE000 0xFFFD c) (within 0x10000 0x10FFFF c)

utf8_same : (c : ℕ) → utf8 c ≡ spec.utf8 c
unfolding utf8 spec.utf8
utf8_same c = refl

utf8s_same : (cs : List ℕ) → utf8s cs ≡ spec.utf8s cs
unfolding spec.utf8s gather
utf8s_same [] = refl
utf8s_same (c ∷ cs) = ap₂ ◌++◌ (utf8_same c) (utf8s_same cs)

-- no code point that XML allows is a surrogate
surrogate : (c : ℕ) → 0xD800 ≤ c → c ≤ 0xDFFF → xml_char c ≡ false
surrogate c l h =
    simp (
      ne_eqb c 9 (omega arith),
      ne_eqb c 10 (omega arith),
      ne_eqb c 13 (omega arith),
      le-leb 0x20 c (omega arith),
      lt-leb c 0xD7FF (omega arith),
      lt-leb 0xE000 c (omega arith),
      lt-leb 0x10000 c (omega arith),
    )

xml_scalar : (c : ℕ) → xml_char c ≡ true → scalar c ≡ true
xml_scalar c x =
    cases (within 0xD800 0xDFFF c)
    (λ p. absurd (true≢false (sym x ∙ surrogate c (leb-true 0xD800 c (and_left (leb 0xD800 c) _ p)) (leb-true c 0xDFFF (and_right (leb 0xD800 c) _ p)))))
    (λ p. simp (le-leb c 0x10FFFF (allowed_bound c (sym (xml_same c) ∙ x)), p))

xml_scalars : (cs : List ℕ) → all_xml cs ≡ true → all_scalar cs ≡ true
xml_scalars [] h = refl
xml_scalars (c ∷ cs) h = rw (xml_scalar c (and_left (xml_char c) _ h), xml_scalars cs (and_right (xml_char c) _ h))

allowed : (cs : List ℕ) → all_xml cs ≡ true → Allowed cs
allowed [] h = no_text
allowed (c ∷ cs) h = one_point (sym (xml_same c) ∙ and_left (xml_char c) _ h) (allowed cs (and_right (xml_char c) _ h))

all_xml_lem : (cs : List ℕ) → Allowed cs → all_xml cs ≡ true
all_xml_lem [] no_text = refl
all_xml_lem (c ∷ cs) (one_point p a) = rw (xml_same c, p, all_xml_lem cs a)

-- THE DECODER in the specification's words. A code point that UTF-8 can hold is read back from its bytes, and told to be
-- an accent or not
pub decoded_scalar : (c : ℕ) (rest : List ℕ) → scalar c ≡ true
    → char_of (spec.utf8 c ++ rest) ≡ point_of c (length (spec.utf8 c))
decoded_scalar c rest h =
    subst (λ (u : List ℕ). char_of (u ++ rest) ≡ point_of c (length u)) (utf8_same c) (decoded c rest h)

pub decoded_allowed : (c : ℕ) (rest : List ℕ) → xml_allows c ≡ true
    → char_of (spec.utf8 c ++ rest) ≡ point_of c (length (spec.utf8 c))
decoded_allowed c rest h = decoded_scalar c rest (xml_scalar c (xml_same c ∙ h))

-- what it reads stands there
pub record Decoded (t : List ℕ) (c w : ℕ) (a : Bool) : Type 0 where
  pub bytes : t ≡ spec.utf8 c ++ drop w t
  pub width : w ≡ length (spec.utf8 c)
  pub can_hold : scalar c ≡ true
  pub accent : a ≡ is_accent c

pub char_is : (t : List ℕ) (c w : ℕ) {a : Bool} → char_of t ≡ character c w a → Decoded t c w a
char_is t c w {a} e =
    let front : take w t ≡ spec.utf8 c = encoded t c w e ∙ utf8_same c in
    let back : t ≡ spec.utf8 c ++ drop w t = sym (take-append-drop w t) ∙ ap (λ (u : List ℕ). u ++ drop w t) front in
    let fits : scalar c ≡ true = read_scalar t c w e in
    record {
      bytes = back;
      width = sym (length-take-le w t (char_width t c w e).1) ∙ ap length front;
      can_hold = fits;
      accent = point_accent _ _ _ _ (sym e ∙ ap char_of back ∙ decoded_scalar c (drop w t) fits);
    }

-- a text that passes: its code points
pub text_good : (t : List ℕ) → text_ok t ≡ true → (cs : List ℕ) × (text_codes t ≡ some cs)
text_good t h = by (codes t) refl h
  where
    by : (o : Option (List ℕ)) → codes t ≡ o → some_xml o ≡ true → (cs : List ℕ) × (text_codes t ≡ some cs)
    by none e k = absurd (true≢false (sym k))
    by (some cs) e k =
        (cs, subst (λ (s : List ℕ). text_codes s ≡ some cs) (sym (utf8s_same cs) ∙ bytes_of_codes t cs e) (text_of_utf8s cs (allowed cs k)))

text_passes : (t cs : List ℕ) → text_codes t ≡ some cs → text_ok t ≡ true
text_passes t cs e =
    let s = text_of_some t cs e in
    let x = all_xml_lem cs s.1 in
    subst (λ (l : List ℕ). text_ok l ≡ true) (utf8s_same cs ∙ s.0) (ap some_xml (codes_of_bytes cs (xml_scalars cs x)) ∙ x)

pub text_bad_is : (t : List ℕ) → text_ok t ≡ false → text_codes t ≡ none
text_bad_is t h = by (text_codes t) refl
  where
    by : (o : Option (List ℕ)) → text_codes t ≡ o → text_codes t ≡ none
    by none e = e
    by (some cs) e = absurd (true≢false (sym (text_passes t cs e) ∙ h))
