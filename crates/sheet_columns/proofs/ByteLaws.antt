-- The bytes of shown forms.
use Prim.Native.Nat.{ℕ, ◌+◌, ◌*◌, ◌/◌, ◌≤◌, ◌<◌}
use native.Mathlib.Omega.{arith}
use mathlib.Core.Path.{◌≡◌, refl, sym, ap, ap₂, ◌∙◌}
use mathlib.Core.Bool.{Bool, true, false, cond}
use mathlib.Core.List.{List, [], ◌∷◌, ◌++◌, map, map-append}
use lib.ListN.{length, length-append}
use lib.Dec.{ltb}
use borrow.Author.Tests.{ne_eqb, lt-ltb, ltb-true, ltb-false}
use Rattle.xliff.specs.Bytes.{among, gather}
use Rattle.xliff.specs.Text.{six, utf8, utf8_1, utf8_2, utf8_3, utf8_4, utf8s}
use Rattle.xliff.specs.Item.{text}
use Rattle.xliff.specs.Good.{Each, each_nil, each_cons}
use Rattle.table.specs.Meaning.{item}
use Rattle.table.specs.declared.Half.TheVariants.{Start, End}
use Rattle.table.specs.declared.Item.{Item}
use Rattle.table.specs.declared.Item.TheVariants.{Character, Standalone, Isolated, Pair, AnnotationStart, AnnotationEnd}
use Rattle.sheet.specs.Column.{full_stop, cell, shown, shown_all}
use Rattle.sheet.proofs.Ascii.{Ascii, ascii_bytes, start_ascii, end_ascii}

-- a byte above 127 stays
cell_above : (b : ℕ) → 128 ≤ b → cell b ≡ b
unfolding cell among
cell_above b h =
    rw (ne_eqb b 9 (λ e. omega arith), ne_eqb b 10 (λ e. omega arith), ne_eqb b 13 (λ e. omega arith)) refl

cells_above : (s : List ℕ) → Each (λ (b : ℕ). 128 ≤ b) s → map cell s ≡ s
cells_above [] each_nil = refl
cells_above (b ∷ s) (each_cons h k) = ap₂ ◌∷◌ (cell_above b h) (cells_above s k)

utf8_above : (c : ℕ) → 128 ≤ c → Each (λ (b : ℕ). 128 ≤ b) (utf8 c)
unfolding utf8
utf8_above c h = by (ltb c 0x80) (ltb c 0x800) (ltb c 0x10000) refl
  where
    low : (n : ℕ) → 128 ≤ six n
    low n = omega arith

    by : (p q r : Bool) → ltb c 0x80 ≡ p
        → Each (λ (b : ℕ). 128 ≤ b) (cond p (utf8_1 c) (cond q (utf8_2 c) (cond r (utf8_3 c) (utf8_4 c))))
    by true q r e = let z = ltb-true c 0x80 e in absurd (let y : ⊥ = omega arith in y)
    by false true r e = each_cons {x = 0xC0 + c / 64} (omega arith) (each_cons (low c) each_nil)
    by false false true e =
        each_cons {x = 0xE0 + c / 4096} (omega arith) (each_cons (low (c / 64)) (each_cons (low c) each_nil))
    by false false false e =
        each_cons {x = 0xF0 + c / 262144} (omega arith)
        (each_cons (low (c / 4096)) (each_cons (low (c / 64)) (each_cons (low c) each_nil)))

small_cell : (c : ℕ) → c < 128 → cell c < 128
unfolding cell
small_cell c h = by (among c (9 ∷ 10 ∷ 13 ∷ []))
  where
    by : (b : Bool) → cond b full_stop c < 128
    by true = omega arith
    by false = h

one_byte : (c : ℕ) → c < 128 → utf8 c ≡ c ∷ []
unfolding utf8
one_byte c h = rw (lt-ltb c 128 h) refl

-- the cell of a code point, byte by byte
point_cell : (c : ℕ) → map cell (utf8 c) ≡ utf8 (cell c)
point_cell c = by (ltb c 128) refl
  where
    by : (b : Bool) → ltb c 128 ≡ b → map cell (utf8 c) ≡ utf8 (cell c)
    by true e =
        let h = ltb-true c 128 e in
        ap (map cell) (one_byte c h) ∙ sym (one_byte (cell c) (small_cell c h))
    by false e =
        let h = ltb-false c 128 e in
        cells_above (utf8 c) (utf8_above c h) ∙ sym (ap utf8 (cell_above c h))

pub text_cells : (cs : List ℕ) → map cell (utf8s cs) ≡ utf8s (shown_all (map text cs))
unfolding utf8s shown_all shown gather
text_cells [] = refl
text_cells (c ∷ cs) = map-append cell (utf8 c) (utf8s cs) ∙ ap₂ ◌++◌ (point_cell c) (text_cells cs)

-- how many cells, and how many bytes
pub text_long : (cs : List ℕ) → length (shown_all (map text cs)) ≡ length cs
unfolding shown_all shown gather
text_long [] = refl
text_long (c ∷ cs) = omega (arith, text_long cs)

utf8_long : (c : ℕ) → length (utf8 c) ≤ 4
unfolding utf8
utf8_long c = by (ltb c 0x80) (ltb c 0x800) (ltb c 0x10000)
  where
    by : (p q r : Bool) → length (cond p (utf8_1 c) (cond q (utf8_2 c) (cond r (utf8_3 c) (utf8_4 c)))) ≤ 4
    by true q r = omega arith
    by false true r = omega arith
    by false false true = omega arith
    by false false false = omega arith

pub bytes_long : (cs : List ℕ) → length (utf8s cs) ≤ 4 * length cs
unfolding utf8s gather
bytes_long [] = omega arith
bytes_long (c ∷ cs) = omega (arith, length-append (utf8 c) (utf8s cs), utf8_long c, bytes_long cs)

-- the shown form of an item that is no text has a byte for each cell
item_ascii : (i : Item) → Ascii (shown (item i))
unfolding shown
item_ascii (Character c) = each_cons {x = 35} (omega arith) each_nil
item_ascii (Standalone f) = each_cons {x = 123} (omega arith) (end_ascii f.id)
item_ascii (Isolated Start f) = start_ascii f.id
item_ascii (Isolated End f) = end_ascii f.id
item_ascii (Pair w Start f) = start_ascii f.id
item_ascii (Pair w End f) = end_ascii f.id
item_ascii (AnnotationStart w i t) = start_ascii i
item_ascii (AnnotationEnd w i) = end_ascii i

pub item_bytes : (i : Item) → utf8s (shown (item i)) ≡ shown (item i)
item_bytes i = ascii_bytes (shown (item i)) (item_ascii i)
