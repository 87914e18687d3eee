-- What the decoder reads is what the specification finds at the front.
use Prim.Native.Nat.{ℕ, zero, suc, ◌+◌, ◌-◌, ◌/◌, ◌≤◌, ◌<◌}
use mathlib.Core.Path.{◌≡◌, refl, sym, ap, ◌∙◌, subst}
use mathlib.Core.Bool.{Bool, true, false, ◌&&◌, cond, true≢false}
use mathlib.Core.List.{List, [], ◌∷◌, ◌++◌, append_assoc, append-nil}
use mathlib.Core.Option.{Option, none, some}
use native.Mathlib.Omega.{arith}
use lib.ListN.{length, get_or, take, drop, length-append, take-append-drop, get_or-eq_default}
use lib.Seq.{take-append-le, get_or-take}
use lib.Dec.{leb, ltb}
use borrow.Author.Tests.{ltb-true, ltb-false, leb-true, leb-false, lt-ltb, le-ltb, le-leb, lt-leb}
use borrow.Table.Steps.{cases}
use Rattle.std.specs.Prelude.{Option as RustOption, Some, None}
use Rattle.xliff.specs.Bytes.{equal}
use Rattle.xliff.specs.Text.{between, xml_allows, six, utf8_1, utf8_2, utf8_3, utf8_4, utf8, spelled, allowed_first}
use Rattle.xliff.proofs.lists.Tests.{and_left, and_right, and_both, and-true, or_both, equal_true, equal_refl}
use Rattle.xliff.proofs.text.Utf8.{utf8_nonempty, spelled_utf8, allowed_first_utf8, allowed_first_some}
use Rattle.text.specs.Utf8.{scalar, xml_char, character, point_of, char_of}
use Rattle.text.specs.declared.Character.{Character}
use Rattle.text.proofs.TextLaws.{xml_same, decoded_scalar, decoded_allowed, char_is}
use Rattle.xml.specs.Characters.{found, cut, wrong, is_scalar, part_of, cut_character, front_character}

-- one character, read twice
one_character : {x y : Character} → Some x ≡ Some y → x ≡ y
one_character e = cc

point_same : {c w d v : ℕ} {a b : Bool} → character c w a ≡ character d v b → c ≡ d
point_same e = ap (λ (x : Character). x.point) (one_character e)

width_same : {c w d v : ℕ} {a b : Bool} → character c w a ≡ character d v b → w ≡ v
width_same e = ap (λ (x : Character). x.width) (one_character e)

-- the code points that UTF-8 can hold, as the decoder and the specification say it
scalar_same : (c : ℕ) → scalar c ≡ is_scalar c
unfolding is_scalar between
scalar_same c = by (ltb c 0xD800) (leb 0xE000 c) refl refl
  where
    by : (x y : Bool) → ltb c 0xD800 ≡ x → leb 0xE000 c ≡ y → scalar c ≡ is_scalar c
    by true y p q =
        let h : c < 0xD800 = ltb-true c 0xD800 p in
        simp (p, le-leb c 0x10FFFF (omega arith), lt-leb 0xD800 c h)
    by false true p q =
        let h : 0xE000 ≤ c = leb-true 0xE000 c q in
        simp (p, q, le-leb 0xD800 c (omega arith), lt-leb c 0xDFFF h, and-true)
    by false false p q =
        let h : c < 0xE000 = leb-false 0xE000 c q in
        simp (p, q, le-leb 0xD800 c (ltb-false c 0xD800 p), le-leb c 0xDFFF (omega arith), le-leb c 0x10FFFF (omega arith))

scalar_most : (c : ℕ) → scalar c ≡ true → c ≤ 0x10FFFF
scalar_most c h = leb-true c 0x10FFFF (and_left (leb c 0x10FFFF) _ h)

-- bytes that are the beginning of a character and not the whole of it
record Part (t : List ℕ) (c : ℕ) : Type 0 where
  can_hold : scalar c ≡ true
  unfinished : length t < length (utf8 c)
  here : t ≡ take (length t) (utf8 c)

part_is : (t : List ℕ) (c : ℕ) → part_of t c ≡ true → Part t c
unfolding part_of
part_is t c h =
    let first = and_left (is_scalar c && ltb (length t) (length (utf8 c))) _ h in
    record {
      can_hold = scalar_same c ∙ and_left (is_scalar c) _ first;
      unfinished = ltb-true _ _ (and_right (is_scalar c) _ first);
      here = equal_true t _ (and_right (is_scalar c && ltb (length t) (length (utf8 c))) _ h);
    }

is_part : (t : List ℕ) (c : ℕ) → Part t c → part_of t c ≡ true
unfolding part_of
is_part t c p =
    and_both _ _ (and_both _ _ (sym (scalar_same c) ∙ p.can_hold) (lt-ltb _ _ p.unfinished))
    (subst (λ (u : List ℕ). equal t u ≡ true) p.here (equal_refl t))

-- BYTES FILLED UP to four by another
abbrev filled_up : List ℕ → ℕ → List ℕ
filled_up t p = get_or t 0 p ∷ get_or t 1 p ∷ get_or t 2 p ∷ get_or t 3 p ∷ []

-- the code point that they spell then
abbrev guess : List ℕ → ℕ → ℕ
guess t p = spelled (t ++ (p ∷ p ∷ p ∷ []))

filled_spells : (t : List ℕ) (p : ℕ) → 1 ≤ length t → guess t p ≡ spelled (filled_up t p)
unfolding spelled
filled_spells [] p h = absurd (let z : ⊥ = omega arith in z)
filled_spells (a ∷ []) p h = refl
filled_spells (a ∷ b ∷ []) p h = refl
filled_spells (a ∷ b ∷ c ∷ []) p h = refl
filled_spells (a ∷ b ∷ c ∷ d ∷ t) p h = refl

filled_front : (t : List ℕ) (p : ℕ) → length t ≤ 4 → t ≡ take (length t) (filled_up t p)
filled_front [] p h = refl
filled_front (a ∷ []) p h = refl
filled_front (a ∷ b ∷ []) p h = refl
filled_front (a ∷ b ∷ c ∷ []) p h = refl
filled_front (a ∷ b ∷ c ∷ d ∷ []) p h = refl
filled_front (a ∷ b ∷ c ∷ d ∷ e ∷ t) p h = absurd (let z : ⊥ = omega arith in z)

-- a byte that goes on with a character
abbrev Trail : ℕ → Type 0
Trail b = (0x80 ≤ b) × (b ≤ 0xBF)

six_trails : (n : ℕ) → Trail (six n)
six_trails n = (omega arith, omega arith)

-- a byte of the beginning of a list is the list's, any other the one that fills up
module _ (t u : List ℕ) (i p : ℕ) (e : t ≡ take (length t) u) where
  filled_byte : i < length t → get_or t i p ≡ get_or u i p
  filled_byte h = ap (λ (l : List ℕ). get_or l i p) e ∙ get_or-take (length t) u i p h

  filled_trail : Trail (get_or u i p) → Trail p → Trail (get_or t i p)
  filled_trail h k =
      cases (ltb i (length t)) (λ b. subst Trail (sym (filled_byte (ltb-true i (length t) b))) h)
      (λ b. subst Trail (sym (get_or-eq_default t p (ltb-false i (length t) b))) k)

-- Behind the first byte of a code point, bytes that go on and spell that code point are those of its UTF-8
spelled_two : (c a b : ℕ) (s : List ℕ) → c < 0x800 → a ≡ 0xC0 + c / 64 → Trail b → c ≡ spelled (a ∷ b ∷ s) → b ≡ six c
unfolding spelled
spelled_two c a b s h e k f =
    let g = simp (le-ltb a 0x80 (omega arith), lt-ltb a 0xE0 (omega arith)) at f in
    omega arith

spelled_three : (c a b x : ℕ) (s : List ℕ) → c < 0x10000 → a ≡ 0xE0 + c / 4096 → Trail b → Trail x
    → c ≡ spelled (a ∷ b ∷ x ∷ s) → (b ≡ six (c / 64)) × (x ≡ six c)
unfolding spelled
spelled_three c a b x s h e k l f =
    let g = simp (le-ltb a 0x80 (omega arith), le-ltb a 0xE0 (omega arith), lt-ltb a 0xF0 (omega arith)) at f in
    (omega arith, omega arith)

spelled_four : (c a b x y : ℕ) (s : List ℕ) → a ≡ 0xF0 + c / 262144 → Trail b → Trail x → Trail y
    → c ≡ spelled (a ∷ b ∷ x ∷ y ∷ s) → (b ≡ six (c / 4096)) × (x ≡ six (c / 64)) × (y ≡ six c)
unfolding spelled
spelled_four c a b x y s e k l m f =
    let g = simp (le-ltb a 0x80 (omega arith), le-ltb a 0xE0 (omega arith), le-ltb a 0xF0 (omega arith)) at f in
    (omega arith, omega arith, omega arith)

-- a beginning that is filled up to its code point is filled up to the code point's UTF-8
abbrev Whole : List ℕ → ℕ → List ℕ → Type 0
Whole t p u = length t < length u → t ≡ take (length t) u → filled_up t p ≡ u ++ drop (length u) (filled_up t p)

module _ (t : List ℕ) (p c : ℕ) (k : Trail p) (n : 1 ≤ length t) (e : c ≡ spelled (filled_up t p)) where
  whole_two : c < 0x800 → Whole t p (utf8_2 c)
  whole_two h l f =
      let first = filled_byte t (utf8_2 c) 0 p f n in
      let second = filled_trail t (utf8_2 c) 1 p f (six_trails c) k in
      let bytes = spelled_two c _ _ _ h first second e in
      cc

  whole_three : c < 0x10000 → Whole t p (utf8_3 c)
  whole_three h l f =
      let first = filled_byte t (utf8_3 c) 0 p f n in
      let second = filled_trail t (utf8_3 c) 1 p f (six_trails (c / 64)) k in
      let third = filled_trail t (utf8_3 c) 2 p f (six_trails c) k in
      let bytes = spelled_three c _ _ _ _ h first second third e in
      cc

  whole_four : Whole t p (utf8_4 c)
  whole_four l f =
      let first = filled_byte t (utf8_4 c) 0 p f n in
      let second = filled_trail t (utf8_4 c) 1 p f (six_trails (c / 4096)) k in
      let third = filled_trail t (utf8_4 c) 2 p f (six_trails (c / 64)) k in
      let fourth = filled_trail t (utf8_4 c) 3 p f (six_trails c) k in
      let bytes = spelled_four c _ _ _ _ _ first second third fourth e in
      cc

  whole : Whole t p (utf8 c)
  unfolding utf8
  whole = by (ltb c 0x80) (ltb c 0x800) (ltb c 0x10000) refl refl
    where
      by : (x y z : Bool) → ltb c 0x800 ≡ y → ltb c 0x10000 ≡ z
          → Whole t p (cond x (utf8_1 c) (cond y (utf8_2 c) (cond z (utf8_3 c) (utf8_4 c))))
      by true y z g h = λ l f. absurd (let w : ⊥ = omega arith in w)
      by false true z g h = whole_two (ltb-true c 0x800 g)
      by false false true g h = whole_three (ltb-true c 0x10000 h)
      by false false false g h = whole_four

-- THE CUT: what the decoder reads of the bytes filled up takes more than the bytes just where they are a part of it
module _ (t : List ℕ) (p : ℕ) (n : 1 ≤ length t) (k : Trail p) where
  part_decoded : part_of t (guess t p) ≡ true → char_of (filled_up t p) ≡ point_of (guess t p) (length (utf8 (guess t p)))
  part_decoded h =
      let part = part_is t (guess t p) h in
      ap char_of (whole t p (guess t p) k n (filled_spells t p n) part.unfinished part.here)
      ∙ decoded_scalar (guess t p) _ part.can_hold

  decoded_part : (c w : ℕ) {a : Bool} → char_of (filled_up t p) ≡ character c w a → length t < w → part_of t (guess t p) ≡ true
  decoded_part c w e h =
      let read = char_is (filled_up t p) c w e in
      let rest = drop w (filled_up t p) in
      let spells = spelled_utf8 c rest (scalar_most c read.can_hold) in
      let same : guess t p ≡ c = filled_spells t p n ∙ ap spelled read.bytes ∙ spells in
      let size = ap length read.bytes in
      let fits : length t ≤ 4 = omega (arith, length-append (utf8 c) rest, read.width) in
      let within = take-append-le (length t) (utf8 c) rest (omega (arith, read.width)) in
      let front : t ≡ take (length t) (utf8 c) = filled_front t p fits ∙ ap (take (length t)) read.bytes ∙ within in
      rw same
      (is_part t c (record { can_hold = read.can_hold; unfinished = omega (arith, read.width); here = front }))

  module _ {r : RustOption Character} (e : r ≡ char_of (filled_up t p)) where
    pub goes_on : {c w : ℕ} {a : Bool} → r ≡ character c w a → ltb (length t) w ≡ part_of t (guess t p)
    goes_on {c} {w} f =
        cases (part_of t (guess t p))
        (λ b.
        let same = part_decoded b in
        let size : w ≡ length (utf8 (guess t p)) = width_same (sym f ∙ e ∙ same) in
        lt-ltb (length t) w (omega (arith, (part_is t (guess t p) b).unfinished)) ∙ sym b)
        (λ b.
        cases (ltb (length t) w)
        (λ l. absurd (true≢false (sym (decoded_part c w (sym e ∙ f) (ltb-true _ _ l)) ∙ b)))
        (λ l. l ∙ sym b))

    pub goes_nowhere : r ≡ None → false ≡ part_of t (guess t p)
    goes_nowhere f =
        cases (part_of t (guess t p))
        (λ b.
        let same = part_decoded b in
        absurd (let z : ◌≡◌ {A = ℕ} 0 1 = cc in omega arith))
        sym

-- THE FRONT. A whole character is not cut
whole_uncut : (t : List ℕ) (c w : ℕ) {a : Bool} → char_of t ≡ character c w a → (d : ℕ) → part_of t d ≡ false
whole_uncut t c w e d =
    cases (part_of t d)
    (λ b.
    let part = part_is t d b in
    let read = char_is t c w e in
    let tail = drop (length t) (utf8 d) in
    let begun = ap (λ (l : List ℕ). l ++ tail) (sym part.here ∙ read.bytes) in
    let split = append-nil (utf8 d) ∙ sym (take-append-drop (length t) (utf8 d)) in
    let both : utf8 d ++ [] ≡ utf8 c ++ (drop w t ++ tail) = split ∙ begun ∙ append_assoc (utf8 c) (drop w t) tail in
    let one = decoded_scalar d [] part.can_hold in
    let other = decoded_scalar c (drop w t ++ tail) read.can_hold in
    let same : point_of d (length (utf8 d)) ≡ point_of c (length (utf8 c)) = sym one ∙ ap char_of both ∙ other in
    let size : length (utf8 d) ≡ length (utf8 c) = width_same same in
    absurd (omega (arith, part.unfinished, ap length read.bytes, length-append (utf8 c) (drop w t))))
    (λ b. b)

uncut : (t : List ℕ) (c w : ℕ) {a : Bool} → char_of t ≡ character c w a → cut_character t ≡ false
unfolding cut_character
uncut t c w e = or_both _ _ (whole_uncut t c w e _) (whole_uncut t c w e _)

-- where the decoder reads no character that XML allows, there is none
nothing : (t : List ℕ)
    → ((d : ℕ) → xml_allows d ≡ true → char_of t ≡ point_of d (length (utf8 d)) → ⊥) → allowed_first t ≡ none
nothing t h = by (allowed_first t) refl
  where
    by : (o : Option ℕ) → allowed_first t ≡ o → allowed_first t ≡ none
    by none e = e
    by (some d) e =
        let (allows, bytes) = allowed_first_some t d e in
        absurd (h d allows (ap char_of bytes ∙ decoded_allowed d _ allows))

not_found : (t : List ℕ) (b : Bool) → allowed_first t ≡ none → cut_character t ≡ b → cond b cut wrong ≡ front_character t
unfolding front_character
not_found t b h k = rw (h, front_character, k)

module _ (t : List ℕ) {r : RustOption Character} (e : r ≡ char_of t) where
  pub front_width : {c w : ℕ} {a : Bool} → r ≡ character c w a → 1 ≤ w
  front_width {c} {w} f = omega (arith, (char_is t c w (sym e ∙ f)).width, utf8_nonempty c)

  pub front_found : {c w : ℕ} {a : Bool} → r ≡ character c w a → xml_char c ≡ true → found c (w - 1) ≡ front_character t
  unfolding front_character
  front_found {c} {w} f h =
      let read = char_is t c w (sym e ∙ f) in
      let allows = sym (xml_same c) ∙ h in
      let first = ap allowed_first read.bytes ∙ allowed_first_utf8 c (drop w t) allows in
      rw (first, front_character, read.width)

  pub front_forbidden : {c w : ℕ} {a : Bool} → r ≡ character c w a → xml_char c ≡ false → wrong ≡ front_character t
  front_forbidden {c} {w} f h =
      not_found t false
      (nothing t
      (λ d allows g.
      let same : c ≡ d = point_same (sym f ∙ e ∙ g) in
      true≢false (sym allows ∙ sym (xml_same d) ∙ ap xml_char (sym same) ∙ h)))
      (uncut t c w (sym e ∙ f))

  pub front_bad : (b : Bool) → r ≡ None → b ≡ cut_character t → cond b cut wrong ≡ front_character t
  front_bad b f h =
      not_found t b
      (nothing t
      (λ d allows g.
      let z : ◌≡◌ {A = ℕ} 0 1 = cc in
      omega arith))
      (sym h)
