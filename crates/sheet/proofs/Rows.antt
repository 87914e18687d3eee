-- Rows of 79 cells, without a line feed.
use Prim.Native.Nat.{ℕ, zero, suc, ◌+◌, ◌-◌, ◌/◌, ◌%◌, ◌≤◌, ◌<◌}
use native.Mathlib.Omega.{arith}
use mathlib.Core.Path.{◌≡◌, refl, sym, ap, ◌∙◌, subst}
use mathlib.Core.Bool.{Bool, true, false, cond}
use mathlib.Core.List.{List, [], ◌∷◌, ◌++◌, map}
use lib.ListN.{length, take, drop, replicate, length-append, length-replicate}
use lib.Seq.{take-append_seam, drop-append-add}
use lib.Dec.{eqb, ltb}
use borrow.Author.Tests.{eqb-false, ne_eqb}
use Rattle.xliff.specs.Bytes.{among, gather}
use Rattle.xliff.specs.State.{state_letters}
use Rattle.xliff.specs.Item.{Item, Content, start, end, text, character, standalone, isolated, pair, annotation_start, annotation_end}
use Rattle.xliff.specs.Unit.{Head, segment, ignorable, target_items, Part, head_id}
use Rattle.xliff.specs.Desk.{digits, decimal, blank, line_feed}
use Rattle.xliff.specs.Good.{Each, each_nil, each_cons, GoodHead}
use Rattle.xliff.proofs.lists.Each.{each_map, each_among}
use Rattle.xliff.proofs.lists.Tests.{or_left, or_right, or_both}
use Rattle.sheet.specs.Column.{cell, right_brace, start_form, end_form, shown, shown_all, column_cells, fill}
use Rattle.sheet.specs.Sheet.{Row, id_cells, state_cells, later_row, later_rows, part_rows, right_aligned, padded, row_cells}
use Rattle.sheet.specs.Claims.{Columns}
use Rattle.sheet.proofs.Widths.{decimal_3, decimal_5}
use Rattle.sheet.proofs.Columns.{laid}

-- cells that are at most n and hold no line feed
abbrev pub Clean : List ℕ → Type 0
Clean s = among line_feed s ≡ false

pub record Cells (n : ℕ) (s : List ℕ) : Type 0 where
  pub few : length s ≤ n
  pub clean : Clean s

pub clean_append : (s t : List ℕ) → Clean s → Clean t → Clean (s ++ t)
unfolding among
clean_append [] t h k = k
clean_append (a ∷ s) t h k =
    or_both (eqb line_feed a) _ (or_left (eqb line_feed a) _ h) (clean_append s t (or_right (eqb line_feed a) _ h) k)

clean_cons : (a : ℕ) (s : List ℕ) → (line_feed ≡ a → ⊥) → Clean s → Clean (a ∷ s)
unfolding among
clean_cons a s h k = or_both (eqb line_feed a) _ (ne_eqb line_feed a h) k

clean_none : Clean []
unfolding among
clean_none = refl

blanks_clean : (n : ℕ) → Clean (replicate n blank)
unfolding among
blanks_clean zero = refl
blanks_clean (suc n) = blanks_clean n

-- numbers
digits_clean : (f n : ℕ) (rest : List ℕ) → Clean rest → Clean (digits f n rest)
unfolding digits
digits_clean zero n rest h = h
digits_clean (suc f) n rest h = by (ltb n 10) first (digits_clean f (n / 10) ((48 + n % 10) ∷ rest) first)
  where
    first : Clean ((48 + n % 10) ∷ rest)
    first = clean_cons (48 + n % 10) rest (λ e. omega arith) h

    by : (b : Bool) → Clean ((48 + n % 10) ∷ rest) → Clean (digits f (n / 10) ((48 + n % 10) ∷ rest))
        → Clean (cond b ((48 + n % 10) ∷ rest) (digits f (n / 10) ((48 + n % 10) ∷ rest)))
    by true p q = p
    by false p q = q

pub decimal_clean : (n : ℕ) → Clean (decimal n)
unfolding decimal
decimal_clean n = digits_clean 20 n [] clean_none

-- shown forms
feed_among : (c : ℕ) → line_feed ≡ c → among c (9 ∷ 10 ∷ 13 ∷ []) ≡ false → ⊥
unfolding among
feed_among c q e =
    let a = or_left (eqb c 10) _ (or_right (eqb c 9) _ e) in
    eqb-false c 10 a (sym q)

cell_clean : (c : ℕ) → Clean (cell c ∷ [])
unfolding cell
cell_clean c = by (among c (9 ∷ 10 ∷ 13 ∷ [])) refl
  where
    by : (b : Bool) → among c (9 ∷ 10 ∷ 13 ∷ []) ≡ b → Clean (cond b 46 c ∷ [])
    by true e = clean_cons 46 [] (λ q. omega arith) clean_none
    by false e = clean_cons c [] (λ q. feed_among c q e) clean_none

start_clean : (i : ℕ) → Clean (start_form i)
unfolding start_form
start_clean i = clean_cons 123 (decimal i) (λ q. omega arith) (decimal_clean i)

end_clean : (i : ℕ) → Clean (end_form i)
unfolding end_form
end_clean i =
    clean_append (decimal i) (right_brace ∷ []) (decimal_clean i) (clean_cons 125 [] (λ q. omega arith) clean_none)

shown_clean : (x : Item) → Clean (shown x)
unfolding shown
shown_clean (text c) = cell_clean c
shown_clean (character c) = clean_cons 35 [] (λ q. omega arith) clean_none
shown_clean (standalone f) = clean_cons 123 (end_form f.id) (λ q. omega arith) (end_clean f.id)
shown_clean (isolated start f) = start_clean f.id
shown_clean (isolated end f) = end_clean f.id
shown_clean (pair start w f) = start_clean f.id
shown_clean (pair end w f) = end_clean f.id
shown_clean (annotation_start w i t) = start_clean i
shown_clean (annotation_end w i) = end_clean i

all_clean : (xs : Content) → Clean (shown_all xs)
unfolding shown_all gather
all_clean [] = clean_none
all_clean (x ∷ xs) = clean_append (shown x) (shown_all xs) (shown_clean x) (all_clean xs)

-- the rows of a column
abbrev Rows : List (List ℕ) → Type 0
Rows rows = Each (λ (s : List ℕ). Cells column_cells s) rows

shown_rows : (yss : List Content) → Each (λ (ys : Content). length (shown_all ys) ≤ column_cells) yss
    → Rows (map shown_all yss)
shown_rows yss h = each_map shown_all (λ ys k. record { few = k; clean = all_clean ys }) yss h

pub row_good : (xs : Content) → Cells column_cells (fill column_cells xs).row
row_good xs =
    let l = laid column_cells xs in
    subst (Cells column_cells) (sym l.shows_row) (record { few = l.row_within; clean = all_clean l.row })

pub later_good : (xs : Content) → Rows (fill column_cells xs).later
later_good xs = let l = laid column_cells xs in subst Rows (sym l.shows_later) (shown_rows l.later l.within)

-- rows whose columns have room
pub record Roomy (r : Row) : Type 0 where
  pub position : Cells 3 r.position
  pub id : Cells 5 r.id
  pub state : Cells 1 r.state
  pub source : Cells column_cells r.source
  pub target : Cells column_cells r.target

empty_cells : (n : ℕ) → Cells n []
empty_cells n = record { few = omega arith; clean = clean_none }

later_roomy : (s t : List ℕ) → Cells column_cells s → Cells column_cells t → Roomy (later_row s t)
unfolding later_row
later_roomy s t h k =
    record { position = empty_cells 3; id = empty_cells 5; state = empty_cells 1; source = h; target = k }

targets_roomy : (ts : List (List ℕ)) → Rows ts → Each Roomy (map (later_row []) ts)
targets_roomy ts h = each_map (later_row []) (λ t k. later_roomy [] t (empty_cells column_cells) k) ts h

later_rows_roomy : (ss ts : List (List ℕ)) → Rows ss → Rows ts → Each Roomy (later_rows ss ts)
unfolding later_rows
later_rows_roomy [] ts h k = targets_roomy ts k
later_rows_roomy (s ∷ ss) [] (each_cons p h) k =
    each_cons (later_roomy s [] p (empty_cells column_cells)) (later_rows_roomy ss [] h k)
later_rows_roomy (s ∷ ss) (t ∷ ts) (each_cons p h) (each_cons q k) =
    each_cons (later_roomy s t p q) (later_rows_roomy ss ts h k)

id_roomy : (i : ℕ) → i < 65536 → Cells 5 (id_cells i)
unfolding id_cells
id_roomy i h = by (eqb i 0)
  where
    by : (b : Bool) → Cells 5 (cond b [] (decimal i))
    by true = empty_cells 5
    by false = record { few = decimal_5 i (omega arith); clean = decimal_clean i }

no_feed : (s : ℕ) → among s state_letters ≡ true → line_feed ≡ s → ⊥
no_feed s k =
    each_among (λ (z : ℕ). line_feed ≡ z → ⊥) state_letters
    (each_cons (λ q. omega arith)
    (each_cons (λ q. omega arith) (each_cons (λ q. omega arith) (each_cons (λ q. omega arith)
    each_nil)))) s k

state_roomy : (h : Head) → GoodHead h → Cells 1 (state_cells h)
unfolding state_cells
state_roomy (segment f) (g, k) =
    record { few = omega arith; clean = clean_cons f.state [] (no_feed f.state k) clean_none }
state_roomy (ignorable i) g = empty_cells 1

pub part_roomy : (n : ℕ) (p : Part) → n < 1000 → head_id p.head < 65536 → GoodHead p.head
    → Each Roomy (part_rows n p)
unfolding part_rows
part_roomy n p h k g =
    each_cons
    (record {
      position = record { few = decimal_3 n h; clean = decimal_clean n };
      id = id_roomy (head_id p.head) k;
      state = state_roomy p.head g;
      source = row_good p.source;
      target = row_good (target_items p.target);
    })
    (later_rows_roomy (fill column_cells p.source).later (fill column_cells (target_items p.target)).later
    (later_good p.source) (later_good (target_items p.target)))

-- 79 cells
aligned_length : (n : ℕ) (s : List ℕ) → length s ≤ n → length (right_aligned n s) ≡ n
unfolding right_aligned
aligned_length n s h =
    omega (arith, length-append (replicate (n - length s) blank) s, length-replicate (n - length s) blank)

padded_length : (n : ℕ) (s : List ℕ) → length s ≤ n → length (padded n s) ≡ n
unfolding padded
padded_length n s h =
    omega (arith, length-append s (replicate (n - length s) blank), length-replicate (n - length s) blank)

aligned_clean : (n : ℕ) (s : List ℕ) → Clean s → Clean (right_aligned n s)
unfolding right_aligned
aligned_clean n s h = clean_append (replicate (n - length s) blank) s (blanks_clean (n - length s)) h

padded_clean : (n : ℕ) (s : List ℕ) → Clean s → Clean (padded n s)
unfolding padded
padded_clean n s h = clean_append s (replicate (n - length s) blank) h (blanks_clean (n - length s))

-- a column, a blank, and what follows
next_column : (a b : List ℕ) (n m : ℕ) → length a ≡ n → length b ≡ m → length (a ++ (blank ∷ b)) ≡ n + suc m
next_column a b n m h k = omega (arith, length-append a (blank ∷ b))

next_clean : (a b : List ℕ) → Clean a → Clean b → Clean (a ++ (blank ∷ b))
next_clean a b h k = clean_append a (blank ∷ b) h (clean_cons blank b (λ q. omega arith) k)

pub row_79 : (r : Row) → Roomy r → length (row_cells r) ≡ 79
unfolding row_cells
row_79 r g =
    next_column (right_aligned 3 r.position) _ 3 75 (aligned_length 3 r.position g.position.few)
    (next_column (right_aligned 5 r.id) _ 5 69 (aligned_length 5 r.id g.id.few)
    (next_column (padded 1 r.state) _ 1 67 (padded_length 1 r.state g.state.few)
    (next_column (padded column_cells r.source) _ 33 33 (padded_length column_cells r.source g.source.few)
    (padded_length column_cells r.target g.target.few))))

-- where the columns stand
take_is : (n : ℕ) (a b : List ℕ) → length a ≡ n → take n (a ++ b) ≡ a
take_is n a b h = subst (λ (k : ℕ). take k (a ++ b) ≡ a) h (take-append_seam a b)

drop_is : (n m : ℕ) (a b : List ℕ) → length a ≡ n → drop (n + suc m) (a ++ (blank ∷ b)) ≡ drop m b
drop_is n m a b h =
    subst (λ (k : ℕ). drop (k + suc m) (a ++ (blank ∷ b)) ≡ drop m b) h (drop-append-add a (blank ∷ b) (suc m))

pub row_columns : (r : Row) → Roomy r → Columns r
unfolding row_cells
row_columns r g =
    record {
      position = take_is 3 p (blank ∷ after_p) l3;
      id = ap (take 5) (drop_is 3 0 p after_p l3) ∙ take_is 5 i (blank ∷ after_i) l5;
      state = ap (take 1) (drop_is 3 6 p after_p l3 ∙ drop_is 5 0 i after_i l5) ∙ take_is 1 st (blank ∷ after_st) l1;
      source = ap (take column_cells)
          (drop_is 3 8 p after_p l3 ∙ drop_is 5 2 i after_i l5 ∙ drop_is 1 0 st after_st l1)
          ∙ take_is column_cells s (blank ∷ t) l33;
      target = drop_is 3 42 p after_p l3 ∙ drop_is 5 36 i after_i l5 ∙ drop_is 1 34 st after_st l1
          ∙ drop_is 33 0 s t l33;
    }
  where
    p : List ℕ
    p = right_aligned 3 r.position

    i : List ℕ
    i = right_aligned 5 r.id

    st : List ℕ
    st = padded 1 r.state

    s : List ℕ
    s = padded column_cells r.source

    t : List ℕ
    t = padded column_cells r.target

    after_st : List ℕ
    after_st = s ++ (blank ∷ t)

    after_i : List ℕ
    after_i = st ++ (blank ∷ after_st)

    after_p : List ℕ
    after_p = i ++ (blank ∷ after_i)

    l3 : length p ≡ 3
    l3 = aligned_length 3 r.position g.position.few

    l5 : length i ≡ 5
    l5 = aligned_length 5 r.id g.id.few

    l1 : length st ≡ 1
    l1 = padded_length 1 r.state g.state.few

    l33 : length s ≡ 33
    l33 = padded_length column_cells r.source g.source.few

pub row_clean : (r : Row) → Roomy r → Clean (row_cells r)
unfolding row_cells
row_clean r g =
    next_clean (right_aligned 3 r.position) _ (aligned_clean 3 r.position g.position.clean)
    (next_clean (right_aligned 5 r.id) _ (aligned_clean 5 r.id g.id.clean)
    (next_clean (padded 1 r.state) _ (padded_clean 1 r.state g.state.clean)
    (next_clean (padded column_cells r.source) _ (padded_clean column_cells r.source g.source.clean)
    (padded_clean column_cells r.target g.target.clean))))
