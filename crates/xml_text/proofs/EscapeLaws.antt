-- The escapes of a text's bytes are those of its code points.
use Prim.Native.Nat.{ℕ, ◌+◌, ◌/◌, ◌<◌, ◌≤◌}
use mathlib.Core.Path.{◌≡◌, refl, sym, ap, ◌∙◌}
use mathlib.Core.Bool.{Bool, true, false, cond}
use mathlib.Core.List.{List, [], ◌∷◌, ◌++◌, append-nil}
use native.Mathlib.Numerals.{add-one}
use native.Mathlib.Omega.{arith}
use lib.ListN.{length, take, get_or}
use lib.Seq.{take-suc, take-length}
use lib.Dec.{ltb}
use borrow.Author.Tests.{ne_eqb, ltb-false}
use Rattle.xliff.specs.Bytes.{gather}
use Rattle.xliff.specs.Text.{six, utf8, utf8s}
use Rattle.xliff.proofs.lists.Tests.{gather_append}
use Rattle.xml.specs.Write.{escaped}
use Rattle.xml_text.specs.Escapes.{escaped_byte, escaped_bytes}

-- a byte above 127 stays
raw : (b : ℕ) → 128 ≤ b → escaped_byte b ≡ b ∷ []
unfolding escaped_byte
raw b h =
    rw (
      ne_eqb b 38 (λ e. omega arith),
      ne_eqb b 60 (λ e. omega arith),
      ne_eqb b 62 (λ e. omega arith),
      ne_eqb b 13
          (λ e. omega arith),
    )

-- and so does a code point above 127
raw_point : (c : ℕ) → 128 ≤ c → escaped c ≡ utf8 c
unfolding escaped
raw_point c h =
    rw (
      ne_eqb c 38 (λ e. omega arith),
      ne_eqb c 60 (λ e. omega arith),
      ne_eqb c 62 (λ e. omega arith),
      ne_eqb c 13
          (λ e. omega arith),
    )

-- a code point of one byte
one_byte : (c : ℕ) → ltb c 0x80 ≡ true → escaped_byte c ≡ escaped c
unfolding escaped_byte escaped utf8
one_byte c h = rw h

-- of two, three or four
more_bytes : (c : ℕ) → ltb c 0x80 ≡ false → escaped_bytes (utf8 c) ≡ utf8 c
unfolding utf8 gather
more_bytes c h = rw h (by (ltb c 0x800) (ltb c 0x10000))
  where
    by : (a b : Bool)
        → escaped_bytes (cond a ((0xC0 + c / 64) ∷ six c ∷ []) (cond b ((0xE0 + c / 4096) ∷ six (c / 64) ∷ six c ∷ [])
        ((0xF0 + c / 262144) ∷ six (c / 4096) ∷ six (c / 64) ∷ six c ∷ [])))
        ≡ cond a ((0xC0 + c / 64) ∷ six c ∷ []) (cond b ((0xE0 + c / 4096) ∷ six (c / 64) ∷ six c ∷ [])
        ((0xF0 + c / 262144) ∷ six (c / 4096) ∷ six (c / 64) ∷ six c ∷ []))
    by true b = rw (raw (0xC0 + c / 64) (omega arith), raw (six c) (omega arith))
    by false true = rw (raw (0xE0 + c / 4096) (omega arith), raw (six (c / 64)) (omega arith), raw (six c) (omega arith))
    by false false =
        rw (
          raw (0xF0 + c / 262144) (omega arith),
          raw (six (c / 4096)) (omega arith),
          raw (six (c / 64))
              (omega arith),
          raw (six c) (omega arith),
        )

short : (c : ℕ) → ltb c 0x80 ≡ true → escaped_bytes (utf8 c) ≡ escaped c
unfolding utf8 gather
short c h = rw h (append-nil (escaped_byte c) ∙ one_byte c h)

escaped_point : (c : ℕ) → escaped_bytes (utf8 c) ≡ escaped c
escaped_point c = by (ltb c 0x80) refl
  where
    by : (b : Bool) → ltb c 0x80 ≡ b → escaped_bytes (utf8 c) ≡ escaped c
    by true h = short c h
    by false h = more_bytes c h ∙ sym (raw_point c (ltb-false c 0x80 h))

pub escaped_text : (cs : List ℕ) → escaped_bytes (utf8s cs) ≡ gather escaped cs
unfolding utf8s gather
escaped_text [] = refl
escaped_text (c ∷ cs) =
    gather_append escaped_byte (utf8 c) (utf8s cs)
    ∙ ap (λ (l : List ℕ). l ++ escaped_bytes (utf8s cs)) (escaped_point c)
    ∙ ap (λ (l : List ℕ). escaped c ++ l) (escaped_text cs)

-- one byte more of a text
pub one_more : (s : List ℕ) (i : ℕ) → i < length s
    → escaped_bytes (take i s) ++ escaped_byte (get_or s i 0) ≡ escaped_bytes (take (i + 1) s)
unfolding gather
one_more s i h =
    ap (λ (l : List ℕ). escaped_bytes (take i s) ++ l) (sym (append-nil (escaped_byte (get_or s i 0))))
    ∙ sym (gather_append escaped_byte (take i s) (get_or s i 0 ∷ []))
    ∙ ap escaped_bytes (sym (take-suc s i 0 h) ∙ ap (λ (n : ℕ). take n s) (sym (add-one i)))

-- all of it
pub all_bytes : (s : List ℕ) (i : ℕ) → length s ≤ i → i ≤ length s → escaped_bytes (take i s) ≡ escaped_bytes s
all_bytes s i h k = ap escaped_bytes (ap (λ (n : ℕ). take n s) (let z : i ≡ length s = omega arith in z) ∙ take-length s)
