-- Laws of UTF-8: a text is read back from its bytes, and the bytes from the text.
use Rattle.xliff.specs.Good.{Allowed, no_text, one_point}
use Prim.Native.Nat.{ℕ, zero, suc, ◌+◌, ◌*◌, ◌/◌, ◌%◌, ◌<◌, ◌≤◌}
use mathlib.Core.Path.{◌≡◌, refl, sym, ap, ◌∙◌}
use mathlib.Core.Bool.{Bool, true, false, ◌&&◌, cond, true≢false}
use mathlib.Core.List.{List, [], ◌∷◌, ◌++◌}
use mathlib.Core.Option.{Option, none, some}
use native.Mathlib.Omega.{arith}
use lib.ListN.{length, take, drop, length-append, take-append-drop}
use lib.Seq.{take-append_seam, drop-append_seam}
use lib.Dec.{leb, ltb}
use borrow.Author.Tests.{ltb-true, ltb-false, lt-ltb, le-ltb, leb-true, leb-false, le-leb, lt-leb, ne_eqb}
use Rattle.xliff.specs.Bytes.{equal, gather}
use Rattle.xliff.specs.Text.{between, xml_allows, utf8_1, utf8_2, utf8_3, utf8_4, utf8, utf8s, spelled, begins_with, allowed_first, prepend, code_points, text_codes}
use Rattle.xliff.proofs.lists.Tests.{none_some, and_left, and_right, equal_true, equal_refl, gather_append}

-- what XML allows is at most 10FFFF
beyond : (c : ℕ) → 0x10FFFF < c → xml_allows c ≡ false
unfolding xml_allows between
beyond c h =
    rw (
      ne_eqb c 9 (omega arith),
      ne_eqb c 10 (omega arith),
      ne_eqb c 13 (omega arith),
      le-leb 0x20 c (omega arith),
      lt-leb c 0xD7FF (omega arith),
      le-leb 0xE000 c (omega arith),
      lt-leb c 0xFFFD (omega arith),
      le-leb 0x10000 c (omega arith),
      lt-leb c 0x10FFFF (omega arith),
    )

pub allowed_bound : (c : ℕ) → xml_allows c ≡ true → c ≤ 0x10FFFF
allowed_bound c p = by (leb c 0x10FFFF) refl
  where
    by : (b : Bool) → leb c 0x10FFFF ≡ b → c ≤ 0x10FFFF
    by true e = leb-true c 0x10FFFF e
    by false e = let z : true ≡ false = sym p ∙ beyond c (leb-false c 0x10FFFF e) in absurd (true≢false z)

sixes : (c : ℕ) → c / 262144 * 262144 + c / 4096 % 64 * 4096 + c / 64 % 64 * 64 + c % 64 ≡ c
sixes c =
    let h : c / 64 / 64 ≡ c / 4096 = omega arith in
    let k : c / 4096 / 64 ≡ c / 262144 = omega arith in
    omega arith

-- a code point is read back from its bytes
pub spelled_utf8 : (c : ℕ) (t : List ℕ) → c ≤ 0x10FFFF → spelled (utf8 c ++ t) ≡ c
unfolding utf8 spelled
spelled_utf8 c t h = one (ltb c 0x80) refl
  where
    three : (b : Bool) → ltb c 0x10000 ≡ b → 0x800 ≤ c → spelled (cond b (utf8_3 c) (utf8_4 c) ++ t) ≡ c
    three true e l =
        let u : c < 0x10000 = ltb-true c 0x10000 e in
        rw (
          le-ltb (0xE0 + c / 4096) 0x80 (omega arith),
          le-ltb (0xE0 + c / 4096) 0xE0 (omega arith),
          lt-ltb (0xE0 + c / 4096) 0xF0 (omega arith),
        ) (omega arith)
    three false e l =
        let u : 0x10000 ≤ c = ltb-false c 0x10000 e in
        rw (
          le-ltb (0xF0 + c / 262144) 0x80 (omega arith),
          le-ltb (0xF0 + c / 262144) 0xE0 (omega arith),
          le-ltb (0xF0 + c / 262144) 0xF0 (omega arith),
        ) (omega (arith, sixes c))

    two : (b : Bool) → ltb c 0x800 ≡ b → 0x80 ≤ c → spelled (cond b (utf8_2 c) (cond (ltb c 0x10000) (utf8_3 c) (utf8_4 c)) ++ t) ≡ c
    two true e l =
        let u : c < 0x800 = ltb-true c 0x800 e in
        rw (le-ltb (0xC0 + c / 64) 0x80 (omega arith), lt-ltb (0xC0 + c / 64) 0xE0 (omega arith)) (omega arith)
    two false e l = three (ltb c 0x10000) refl (ltb-false c 0x800 e)

    one : (b : Bool) → ltb c 0x80 ≡ b
        → spelled (cond b (utf8_1 c) (cond (ltb c 0x800) (utf8_2 c) (cond (ltb c 0x10000) (utf8_3 c) (utf8_4 c))) ++ t) ≡ c
    one true e = rw e
    one false e = two (ltb c 0x800) refl (ltb-false c 0x80 e)

pub allowed_first_utf8 : (c : ℕ) (t : List ℕ) → xml_allows c ≡ true → allowed_first (utf8 c ++ t) ≡ some c
unfolding allowed_first begins_with
allowed_first_utf8 c t p = rw (spelled_utf8 c t (allowed_bound c p), p, take-append_seam (utf8 c) t, equal_refl (utf8 c))

-- one step of reading a text
code_points_step : (n c : ℕ) (s : List ℕ) → allowed_first s ≡ some c
    → code_points (suc n) s ≡ prepend c (code_points n (drop (length (utf8 c)) s))
unfolding code_points allowed_first begins_with xml_allows spelled between
code_points_step n c [] e = absurd (none_some e)
code_points_step n c (b ∷ s) e = rw (e, code_points)

pub utf8_nonempty : (c : ℕ) → 0 < length (utf8 c)
unfolding utf8
utf8_nonempty c = by (ltb c 0x80) (ltb c 0x800) (ltb c 0x10000)
  where
    by : (a b d : Bool) → 0 < length (cond a (utf8_1 c) (cond b (utf8_2 c) (cond d (utf8_3 c) (utf8_4 c))))
    by true b d = omega arith
    by false true d = omega arith
    by false false true = omega arith
    by false false false = omega arith

pub utf8s_nonempty : (c : ℕ) (cs : List ℕ) → 1 ≤ length (utf8s (c ∷ cs))
unfolding utf8s gather
utf8s_nonempty c cs = omega (arith, length-append (utf8 c) (gather utf8 cs), utf8_nonempty c)

pub utf8s_append : (a b : List ℕ) → utf8s (a ++ b) ≡ utf8s a ++ utf8s b
unfolding utf8s
utf8s_append a b = gather_append utf8 a b

pub code_points_utf8s : (n : ℕ) (cs : List ℕ) → Allowed cs → length (utf8s cs) ≤ n → code_points n (utf8s cs) ≡ some cs
unfolding utf8s gather code_points prepend
code_points_utf8s zero [] a h = refl
code_points_utf8s (suc n) [] a h = refl
code_points_utf8s zero (c ∷ cs) a h =
    let k : 0 < length (utf8 c) = utf8_nonempty c in
    let z : ⊥ = omega (arith, length-append (utf8 c) (gather utf8 cs)) in
    absurd z
code_points_utf8s (suc n) (c ∷ cs) (one_point p a) h =
    code_points_step n c (utf8 c ++ utf8s cs) (allowed_first_utf8 c (utf8s cs) p)
    ∙ ap (λ (l : List ℕ). prepend c (code_points n l)) (drop-append_seam (utf8 c) (utf8s cs))
    ∙ ap (prepend c) (code_points_utf8s n cs a (omega (arith, utf8_nonempty c, length-append (utf8 c) (gather utf8 cs))))

-- a text is read back from its bytes
pub text_of_utf8s : (cs : List ℕ) → Allowed cs → text_codes (utf8s cs) ≡ some cs
unfolding text_codes
text_of_utf8s cs a = code_points_utf8s (length (utf8s cs)) cs a (omega arith)

-- what is read is what the bytes begin with
pub allowed_first_some : (s : List ℕ) (c : ℕ) → allowed_first s ≡ some c → (xml_allows c ≡ true) × (s ≡ utf8 c ++ drop (length (utf8 c)) s)
unfolding allowed_first begins_with
allowed_first_some s c e = by (begins_with s (spelled s)) refl e
  where
    by : (b : Bool) → begins_with s (spelled s) ≡ b → cond b (some (spelled s)) none ≡ some c
        → (xml_allows c ≡ true) × (s ≡ utf8 c ++ drop (length (utf8 c)) s)
    by true t f =
        let q : spelled s ≡ c = cc in
        let t' : xml_allows c && equal (utf8 c) (take (length (utf8 c)) s) ≡ true = rw q at t in (
          and_left _ _ t',
          sym (take-append-drop (length (utf8 c)) s)
              ∙ ap (λ (l : List ℕ). l ++ drop (length (utf8 c)) s)
              (sym (equal_true (utf8 c) (take (length (utf8 c)) s) (and_right (xml_allows c) _ t'))),
        )
    by false t f = let z : Path (Option ℕ) none (some c) = f in absurd (none_some z)

code_points_stop : (n b : ℕ) (s : List ℕ) → allowed_first (b ∷ s) ≡ none → code_points (suc n) (b ∷ s) ≡ none
unfolding code_points
code_points_stop n b s e = rw (e, code_points)

-- a text that is read: its bytes are the UTF-8 of its code points, and XML allows each
pub code_points_some : (n : ℕ) (s cs : List ℕ) → code_points n s ≡ some cs → (utf8s cs ≡ s) × Allowed cs
unfolding code_points utf8s gather prepend
code_points_some zero [] cs e = let q : cs ≡ [] = cc in rw q (refl, no_text)
code_points_some zero (b ∷ s) cs e = absurd (none_some e)
code_points_some (suc n) [] cs e = let q : cs ≡ [] = cc in rw q (refl, no_text)
code_points_some (suc n) (b ∷ s) cs e = by (λ t ds p. code_points_some n t ds p) (allowed_first (b ∷ s)) refl
  where
    rest : ℕ → List ℕ
    rest c = drop (length (utf8 c)) (b ∷ s)

    IH : Type 0
    IH = (t ds : List ℕ) → code_points n t ≡ some ds → (utf8s ds ≡ t) × Allowed ds

    more : IH → (c : ℕ) → allowed_first (b ∷ s) ≡ some c → (o : Option (List ℕ)) → code_points n (rest c) ≡ o
        → prepend c o ≡ some cs → (utf8s cs ≡ b ∷ s) × Allowed cs
    more ih c q none p f = absurd (none_some f)
    more ih c q (some ds) p f =
        let r : cs ≡ c ∷ ds = cc in
        let (u, a) = ih (rest c) ds p in
        let (x, y) = allowed_first_some (b ∷ s) c q in
        rw r (ap (λ (l : List ℕ). utf8 c ++ l) u ∙ sym y, one_point x a)

    by : IH → (o : Option ℕ) → allowed_first (b ∷ s) ≡ o → (utf8s cs ≡ b ∷ s) × Allowed cs
    by ih none q = absurd (none_some (sym (code_points_stop n b s q) ∙ e))
    by ih (some c) q = more ih c q (code_points n (rest c)) refl (sym (code_points_step n c (b ∷ s) q) ∙ e)

pub text_of_some : (s cs : List ℕ) → text_codes s ≡ some cs → (utf8s cs ≡ s) × Allowed cs
unfolding text_codes
text_of_some s cs e = code_points_some (length s) s cs e
