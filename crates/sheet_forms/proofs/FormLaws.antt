-- Laws of shown forms, of cells, and of blanks around bytes.
use Prim.Native.Nat.{ℕ, ◌+◌, ◌-◌, ◌*◌, ◌/◌, ◌%◌, ◌<◌, ◌≤◌}
use native.Mathlib.Omega.{arith}
use native.Mathlib.Numerals.{add-one}
use mathlib.Core.Path.{◌≡◌, refl, sym, ap, ap₂, ◌∙◌}
use mathlib.Core.Bool.{Bool, true, false}
use mathlib.Core.List.{List, [], ◌∷◌, ◌++◌, map, append_assoc, append-nil}
use lib.ListN.{length, take, get_or, set, replicate}
use lib.Seq.{take-suc, take-suc-set, take_all}
use lib.Dec.{eqb}
use borrow.Author.Tests.{eq-eqb, ne_eqb, eqb-false}
use Rattle.std.proofs.lemmas.List.{nil_from_length, replicate-append-replicate, take-replicate}
use Rattle.xliff.specs.Bytes.{among}
use Rattle.xliff.specs.Item.{Fields, Half, start, end, Form, isolated, pair}
use Rattle.xliff.specs.Desk.{decimal, blank}
use Rattle.xliff.proofs.lists.Tests.{map-append}
use Rattle.sheet.specs.Column.{full_stop, cell, shown}
use Rattle.sheet.specs.Sheet.{id_cells, right_aligned, padded}
use Rattle.sheet_forms.specs.Forms.{half_form}

-- an isolated half and a half of a pair have the shown form of a half
pub isolated_shown : (h : Half) (f : Fields) → half_form h f.id ≡ shown (isolated h f)
unfolding shown
isolated_shown start f = refl
isolated_shown end f = refl

pub pair_shown : (h : Half) (w : Form) (f : Fields) → half_form h f.id ≡ shown (pair h w f)
unfolding shown
pair_shown start w f = refl
pair_shown end w f = refl

-- a tab or a line feed, and a byte that is neither nor a return
pub tab_or_feed : (b : ℕ) → 9 ≤ b → b ≤ 10 → full_stop ≡ cell b
unfolding cell among
tab_or_feed b h k = by (eqb b 9) refl
  where
    by : (nine : Bool) → eqb b 9 ≡ nine → full_stop ≡ cell b
    by true e = rw e
    by false e = rw (e, eq-eqb b 10 (let n = eqb-false b 9 e in omega arith))

pub other_cell : (b : ℕ) → (b ≡ 9 → ⊥) → (b ≡ 10 → ⊥) → (b ≡ 13 → ⊥) → b ≡ cell b
unfolding cell among
other_cell b h k l = rw (ne_eqb b 9 h, ne_eqb b 10 k, ne_eqb b 13 l)

-- the cell of the next byte of a piece
pub cells_more : (piece cells : List ℕ) (i b : ℕ) → i < length piece → i < length cells → b ≡ cell (get_or piece i 0)
    → take i cells ≡ map cell (take i piece) → take (i + 1) (set cells i b) ≡ map cell (take (i + 1) piece)
cells_more piece cells i b h k e so_far =
    rw (add-one, take-suc-set cells i b k, take-suc piece i 0 h, map-append cell (take i piece) (get_or piece i 0 ∷ []))
    (ap₂ (λ (p : List ℕ) (x : ℕ). p ++ (x ∷ [])) so_far e)

-- behind the last byte
pub cells_whole : (piece cells : List ℕ) (i : ℕ) → length piece ≤ i → i ≤ length piece
    → take i cells ≡ map cell (take i piece) → take (length piece) cells ≡ map cell piece
cells_whole piece cells i h k e =
    ap (λ (n : ℕ). take n cells) (let z : length piece ≡ i = omega arith in z) ∙ e ∙ ap (map cell) (take_all i piece h)

-- a piece more of a text, and no piece left
pub piece_more : (done piece rest : List ℕ) {ahead text : List ℕ} → ahead ≡ piece ++ rest → done ++ ahead ≡ text
    → (done ++ piece) ++ rest ≡ text
piece_more done piece rest e f = append_assoc done piece rest ∙ ap (λ (l : List ℕ). done ++ l) (sym e) ∙ f

pub pieces_whole : (done rest : List ℕ) {text : List ℕ} → length rest ≡ 0 → done ++ rest ≡ text
    → map cell done ≡ map cell text
pieces_whole done rest e f =
    ap (map cell) (sym (append-nil done) ∙ ap (λ (l : List ℕ). done ++ l) (sym (nil_from_length rest e)) ∙ f)

-- a column's blanks more, and the blanks that are left
pub column_more : (i : ℕ) → replicate (i * 33) blank ++ replicate 33 blank ≡ replicate ((i + 1) * 33) blank
column_more i =
    replicate-append-replicate (i * 33) 33 blank
    ∙ ap (λ (m : ℕ). replicate m blank) (let z : i * 33 + 33 ≡ (i + 1) * 33 = omega arith in z)

pub whole_blanks : (n i : ℕ) → n / 33 ≤ i → i ≤ n / 33
    → replicate (i * 33) blank ++ take (n % 33) (replicate 33 blank) ≡ replicate n blank
whole_blanks n i h k =
    ap (λ (l : List ℕ). replicate (i * 33) blank ++ l) (take-replicate (n % 33) 33 blank (omega arith))
    ∙ replicate-append-replicate (i * 33) (n % 33) blank
    ∙ ap (λ (m : ℕ). replicate m blank) (let z : i * 33 + n % 33 ≡ n = omega arith in z)

-- blanks before, as many as are missing: a number, k digits long
pub aligned : (cells : ℕ) (s : List ℕ) {k before : ℕ} {d : List ℕ} → d ≡ s → k ≡ length s → before ≡ cells - k
    → replicate before blank ++ (d ++ []) ≡ right_aligned cells s
unfolding right_aligned
aligned cells s {d} e f g =
    ap₂ (λ (n : ℕ) (l : List ℕ). replicate n blank ++ l) (g ∙ ap (λ (n : ℕ). cells - n) f) (append-nil d ∙ e)

-- blanks behind
pub behind : (cells : ℕ) (s : List ℕ) {n : ℕ} → n ≡ cells - length s → s ++ replicate n blank ≡ padded cells s
unfolding padded
behind cells s e = ap (λ (n : ℕ). s ++ replicate n blank) e

-- id 0 is blank, another is its number
pub no_id : (cells : ℕ) {i : ℕ} → i ≡ 0 → replicate cells blank ≡ right_aligned cells (id_cells i)
unfolding id_cells
no_id cells {i} e =
    rw (eq-eqb i 0 e)
    (sym (append-nil (replicate cells blank)) ∙ aligned cells [] {before = cells} refl refl (omega arith))

pub some_id : (cells : ℕ) {i n : ℕ} → n ≡ i → (i ≡ 0 → ⊥)
    → right_aligned cells (decimal n) ≡ right_aligned cells (id_cells i)
unfolding id_cells
some_id cells {i} e h = rw (ne_eqb i 0 h) (ap (λ (k : ℕ). right_aligned cells (decimal k)) e)
