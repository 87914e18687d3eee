-- The rows of two contents, one after the other: what is written, and the items that are left.
use Prim.Native.Nat.{ℕ, ◌+◌, ◌-◌, ◌<◌, ◌≤◌}
use native.Mathlib.Omega.{arith}
use mathlib.Core.Path.{◌≡◌, refl, sym, ap, ap₂, ◌∙◌}
use mathlib.Core.Bool.{Bool, true, false, ◌||◌, false≢true}
use mathlib.Core.List.{List, ◌++◌, append_assoc, append-nil}
use lib.ListN.{length, replicate}
use lib.Dec.{ltb}
use borrow.Author.Tests.{ltb-true, ltb-false}
use Rattle.xliff.specs.Bytes.{gather}
use Rattle.xliff.specs.Item.{Content}
use Rattle.xliff.specs.Desk.{blank}
use Rattle.xliff.proofs.lists.Tests.{or_left, or_right}
use Rattle.walk.specs.Kept.{Holds}
use Rattle.draft.specs.declared.Draft.{Draft}
use Rattle.draft.specs.Drafts.{Wrote}
use Rattle.draft.proofs.DraftLaws.{wrote_then, wrote_as}
use Rattle.sheet.specs.Sheet.{row_bytes}
use Rattle.sheet_columns.specs.declared.Cursor.{Cursor}
use Rattle.sheet_columns.specs.Filled.{Ahead}
use Rattle.sheet_columns.proofs.CursorLaws.{ahead_start, ahead_end, ahead_more}
use Rattle.sheet_rows.specs.declared.Columns.{Columns}
use Rattle.sheet_rows.specs.Rows.{columns, rest_rows, goes_on, Onward, PutColumns, content_rows}
use Rattle.sheet_rows.proofs.ByRowLaws.{left_of, rest_none, rest_next}

-- so far is written, and the rows of the items that are left give the rest
pub record Shown (source target : List ℕ) (begun : Draft) (row : Columns) (draft : Draft) (xs ys : Content) : Type 0 where
  pub done : List ℕ
  pub sources : Content
  pub targets : Content
  pub source_ahead : Ahead source row.source.at row.source.left sources
  pub target_ahead : Ahead target row.target.at row.target.left targets
  pub wrote : Wrote done begun draft
  pub all : done ++ gather row_bytes (rest_rows sources targets) ≡ content_rows xs ys

-- a column goes on, or none
either_less : (a n b m : ℕ) → ltb a n || ltb b m ≡ true → (x y : ℕ) → (a < n → 1 ≤ x) → (b < m → 1 ≤ y) → 1 ≤ x + y
either_less a n b m e x y f g = by (ltb a n) refl (ltb b m) refl e
  where
    by : (p : Bool) → ltb a n ≡ p → (q : Bool) → ltb b m ≡ q → p || q ≡ true → 1 ≤ x + y
    by true h q k z = omega (arith, f (ltb-true a n h))
    by false h true k z = omega (arith, g (ltb-true b m k))
    by false h false k z = absurd (false≢true z)

neither_less : (a n b m : ℕ) → ltb a n || ltb b m ≡ false → (n ≤ a) × (m ≤ b)
neither_less a n b m e = (ltb-false a n (or_left (ltb a n) (ltb b m) e), ltb-false b m (or_right (ltb a n) (ltb b m) e))

-- the bytes of both contents that are left: fewer behind a row
abbrev pub bytes_left : List ℕ → List ℕ → Columns → ℕ
bytes_left source target row = (length source - row.source.at) + (length target - row.target.at)

pub fewer_left : (source target : List ℕ) (row next : Columns) → goes_on row (length source) (length target) ≡ true
    → Onward source row.source next.source → Onward target row.target next.target
    → bytes_left source target next < bytes_left source target row
fewer_left source target row next e s t =
    let a = row.source.at in
    let b = row.target.at in
    let n = length source in
    let m = length target in
    let passed = either_less a n b m e ((n - a) - (n - next.source.at)) ((m - b) - (m - next.target.at))
    (λ h. let f = s.further h in omega arith) (λ h. let f = t.further h in omega arith) in
    omega (arith, passed, s.forth, t.forth)

-- the rows of two contents from their starts
abbrev begin : Cursor
begin = record { at = 0; left = 0 }

-- behind the first row
pub shown_start : (source target : List ℕ) (begun : Draft) (row : Columns) (draft : Draft)
    → PutColumns source target (record { source = begin; target = begin }) begun row draft
    → (xs ys : Content) → Holds source xs → Holds target ys → Shown source target begun row draft xs ys
unfolding content_rows
shown_start source target begun row draft (f, g, put) xs ys h k =
    let p = put xs ys (ahead_start source xs h) (ahead_start target ys k) in
    record {
      done = columns xs ys;
      sources = left_of xs;
      targets = left_of ys;
      source_ahead = p.source_ahead;
      target_ahead = p.target_ahead;
      wrote = p.wrote;
      all = refl;
    }

module _ (source target : List ℕ) (begun : Draft) (row : Columns) (draft : Draft) (xs ys : Content)
    (l : Shown source target begun row draft xs ys) where
  -- no item is left: all rows are written
  pub shown_end : goes_on row (length source) (length target) ≡ false → Wrote (content_rows xs ys) begun draft
  shown_end e =
      let (s, t) = neither_less row.source.at (length source) row.target.at (length target) e in
      let no_source = ahead_end source row.source.at row.source.left l.sources l.source_ahead s in
      let no_target = ahead_end target row.target.at row.target.left l.targets l.target_ahead t in
      let none = ap₂ (λ (x y : Content). gather row_bytes (rest_rows x y)) no_source no_target ∙ rest_none in
      wrote_as (sym (append-nil l.done) ∙ ap (λ (x : List ℕ). l.done ++ x) (sym none) ∙ l.all) l.wrote

  -- one row more
  pub shown_on : goes_on row (length source) (length target) ≡ true
      → (led : Draft) → Wrote (replicate 12 blank) draft led
      → (next : Columns) (last : Draft) → PutColumns source target row led next last
      → Shown source target begun next last xs ys
  shown_on e led w next last (f, g, put) =
      let p = put l.sources l.targets l.source_ahead l.target_ahead in
      let some = either_less row.source.at (length source) row.target.at (length target) e
      (length l.sources) (length l.targets)
      (ahead_more source row.source.at row.source.left l.sources l.source_ahead)
      (ahead_more target row.target.at row.target.left l.targets l.target_ahead) in
      let line = replicate 12 blank ++ columns l.sources l.targets in
      let rest = gather row_bytes (rest_rows (left_of l.sources) (left_of l.targets)) in
      record {
        done = l.done ++ line;
        sources = left_of l.sources;
        targets = left_of l.targets;
        source_ahead = p.source_ahead;
        target_ahead = p.target_ahead;
        wrote = wrote_then l.wrote (wrote_then w p.wrote);
        all = append_assoc l.done line rest
            ∙ ap (λ (x : List ℕ). l.done ++ x) (sym (rest_next l.sources l.targets some)) ∙ l.all;
      }
