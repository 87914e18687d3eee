-- The sheet of a valid table: what order 5 asks of it.
use Prim.Native.Nat.{ℕ, zero, suc, ◌+◌, ◌≤◌}
use native.Mathlib.Omega.{arith}
use mathlib.Core.Path.{◌≡◌, refl, sym, ap, ap₂, ◌∙◌, subst}
use mathlib.Core.List.{List, [], ◌∷◌, ◌++◌, map, append-nil}
use lib.ListN.{length, replicate}
use lib.Dec.{ltb}
use borrow.Author.Tests.{ltb-false}
use Rattle.xliff.specs.Bytes.{Bytes, gather}
use Rattle.xliff.specs.Text.{utf8, utf8s}
use Rattle.xliff.specs.Answer.{applies, ◌then◌, result}
use Rattle.xliff.specs.Item.{Content}
use Rattle.xliff.specs.Unit.{Part, target_items, source_sequence}
use Rattle.xliff.specs.Parse.{unit}
use Rattle.xliff.specs.Check.{table_refusal, Valid}
use Rattle.xliff.specs.Desk.{line_feed}
use Rattle.xliff.specs.Good.{Each, each_nil, each_cons, GoodParts}
use Rattle.xliff.proofs.lists.Each.{each_append, each_weaken}
use Rattle.xliff.proofs.lists.Tests.{gather_append}
use Rattle.xliff.proofs.records.Fits.{FitParts}
use Rattle.xliff.proofs.unit.Valid.{heads_unit}
use Rattle.xliff.proofs.unit.Result.{then_right, applies_none, unless_result}
use Rattle.xliff.proofs.both_ends.FitsKept.{table_fits}
use Rattle.places.proofs.Places.{checked_passes}
use Rattle.sheet.specs.Column.{shown, shown_all, column}
use Rattle.sheet.specs.Sheet.{Row, part_rows, rows_from, sheet_rows, row_cells, row_bytes, sheet_bytes, sheet}
use Rattle.sheet.specs.Claims.{Order5}
use Rattle.sheet.proofs.Columns.{rows_down, column_down}
use Rattle.sheet.proofs.Parts.{source_of, target_of, part_of}
use Rattle.sheet.proofs.Rows.{Roomy, part_roomy, row_79, row_columns, row_clean}

-- gathered by way of another list
gather_map : {A : Type 0} (f : A → List ℕ) (l : List A) → gather f l ≡ rows_down (map f l)
unfolding gather
gather_map f [] = refl
gather_map f (a ∷ l) = ap (λ (s : List ℕ). f a ++ s) (gather_map f l)

gather_cong : {A : Type 0} (f g : A → List ℕ) → ((a : A) → f a ≡ g a) → (l : List A) → gather f l ≡ gather g l
unfolding gather
gather_cong f g h [] = refl
gather_cong f g h (a ∷ l) = ap₂ ◌++◌ (h a) (gather_cong f g h l)

blank_rows : (k : ℕ) → rows_down (replicate k []) ≡ []
unfolding gather
blank_rows zero = refl
blank_rows (suc k) = blank_rows k

-- the cells of a column of a part, read down
down : (f : Row → List ℕ) (rows : List Row) (xs : Content) (k : ℕ) → map f rows ≡ column xs ++ replicate k []
    → gather f rows ≡ shown_all xs
down f rows xs k e =
    gather_map f rows ∙ ap rows_down e ∙ gather_append (λ (row : List ℕ). row) (column xs) (replicate k [])
    ∙ ap₂ ◌++◌ (column_down xs) (blank_rows k) ∙ append-nil (shown_all xs)

sources_down : (n : ℕ) (ps : List Part) → gather source_of (rows_from n ps) ≡ shown_all (source_sequence ps)
unfolding rows_from source_sequence shown_all gather
sources_down n [] = refl
sources_down n (p ∷ ps) =
    let o = part_of n p in
    gather_append source_of (part_rows n p) (rows_from (suc n) ps)
    ∙ ap₂ ◌++◌ (down source_of (part_rows n p) p.source o.source_blank o.source) (sources_down (suc n) ps)
    ∙ sym (gather_append shown p.source (source_sequence ps))

targets_down : (n : ℕ) (ps : List Part)
    → gather target_of (rows_from n ps) ≡ gather (λ (p : Part). shown_all (target_items p.target)) ps
unfolding rows_from gather
targets_down n [] = refl
targets_down n (p ∷ ps) =
    let o = part_of n p in
    gather_append target_of (part_rows n p) (rows_from (suc n) ps)
    ∙ ap₂ ◌++◌ (down target_of (part_rows n p) (target_items p.target) o.target_blank o.target)
    (targets_down (suc n) ps)

-- every row has room for its cells
rows_roomy : (n : ℕ) (ps : List Part) → n + length ps ≤ 1000 → FitParts ps → GoodParts ps → Each Roomy (rows_from n ps)
unfolding rows_from
rows_roomy n [] h each_nil each_nil = each_nil
rows_roomy n (p ∷ ps) h (each_cons a f) (each_cons b g) =
    each_append (part_rows n p) (rows_from (suc n) ps) (part_roomy n p (omega arith) a.head b.head)
    (rows_roomy (suc n) ps (omega arith) f g)

table_roomy : (t : List ℕ) → Bytes t → Valid t → Each Roomy (sheet_rows (unit t))
unfolding sheet_rows Valid
table_roomy t b v =
    let p = checked_passes t b v in
    rows_roomy 1 (unit t).parts (omega (arith, p.few_parts, heads_unit (unit t))) (table_fits t b v) p.good_parts

-- a line feed is one byte
row_line : (r : Row) → row_bytes r ≡ utf8s (row_cells r ++ (line_feed ∷ []))
unfolding row_bytes utf8s gather utf8
row_line r = sym (gather_append utf8 (row_cells r) (line_feed ∷ []))

sheet_result : (t : List ℕ) (room : ℕ) (s : List ℕ) → sheet t room ≡ result s
    → (s ≡ sheet_bytes (unit t)) × (length s ≤ room)
unfolding sheet
sheet_result t room s h =
    let (o, e) = unless_result (table_refusal t then applies 15 (ltb room (length (sheet_bytes (unit t)))))
    (sheet_bytes (unit t)) s h in
    let k = ltb-false room (length (sheet_bytes (unit t))) (applies_none 15 _ (then_right (table_refusal t) _ o)) in
    (sym e, subst (λ (l : List ℕ). length l ≤ room) e k)

pub order_5 : Order5
unfolding Order5 sheet_rows sheet_bytes
order_5 t b v =
    record {
      cells = each_weaken row_79 (sheet_rows (unit t)) (table_roomy t b v);
      columns = each_weaken row_columns (sheet_rows (unit t)) (table_roomy t b v);
      no_feed = each_weaken row_clean (sheet_rows (unit t)) (table_roomy t b v);
      source = sources;
      target = targets;
      bytes = λ room s h. let (e, k) = sheet_result t room s h in (e ∙ all_lines, k);
    }
  where
    sources : gather source_of (sheet_rows (unit t)) ≡ shown_all (source_sequence (unit t).parts)
    sources = sources_down 1 (unit t).parts

    targets : gather target_of (sheet_rows (unit t)) ≡ gather (λ (p : Part). shown_all (target_items p.target))
        (unit t).parts
    targets = targets_down 1 (unit t).parts

    all_lines : sheet_bytes (unit t) ≡ gather (λ (r : Row). utf8s (row_cells r ++ (line_feed ∷ [])))
        (sheet_rows (unit t))
    all_lines =
        gather_cong row_bytes (λ (r : Row). utf8s (row_cells r ++ (line_feed ∷ []))) row_line (sheet_rows (unit t))
