-- A part's rows: its two columns side by side.
use Prim.Native.Nat.{ℕ, suc, max}
use native.Mathlib.Omega.{arith}
use mathlib.Core.Path.{◌≡◌, refl, sym, ap, ap₂, ◌∙◌}
use mathlib.Core.List.{List, [], ◌∷◌, ◌++◌, map, append-nil}
use lib.ListN.{length, replicate, length-map}
use Rattle.xliff.specs.Unit.{Part, head_id, target_items}
use Rattle.xliff.specs.Desk.{decimal}
use Rattle.sheet.specs.Column.{column_cells, fill, column}
use Rattle.sheet.specs.Sheet.{Row, id_cells, state_cells, later_row, later_rows, part_rows}
use Rattle.sheet.specs.Claims.{PartOf, Order5Parts}

later_count : (ss ts : List (List ℕ)) → length (later_rows ss ts) ≡ max (length ss) (length ts)
unfolding later_rows
later_count [] ts = omega (arith, length-map ts (later_row []))
later_count (s ∷ ss) [] = let h = later_count ss [] in omega arith
later_count (s ∷ ss) (t ∷ ts) = let h = later_count ss ts in omega arith

abbrev pub source_of : Row → List ℕ
source_of r = r.source

abbrev pub target_of : Row → List ℕ
target_of r = r.target

blank_sources : (ts : List (List ℕ)) → map source_of (map (later_row []) ts) ≡ replicate (length ts) []
unfolding later_row
blank_sources [] = refl
blank_sources (t ∷ ts) = ap {B = List (List ℕ)} (λ l. [] ∷ l) (blank_sources ts)

same_targets : (ts : List (List ℕ)) → map target_of (map (later_row []) ts) ≡ ts
unfolding later_row
same_targets [] = refl
same_targets (t ∷ ts) = ap {B = List (List ℕ)} (λ l. t ∷ l) (same_targets ts)

abbrev With : List (List ℕ) → List (List ℕ) → Type 0
With rows col = (k : ℕ) × (rows ≡ col ++ replicate k [])

with_cons : (s : List ℕ) (rows col : List (List ℕ)) → With rows col → With (s ∷ rows) (s ∷ col)
with_cons s rows col (k, e) = (k, ap {B = List (List ℕ)} (λ l. s ∷ l) e)

later_sources : (ss ts : List (List ℕ)) → With (map source_of (later_rows ss ts)) ss
unfolding later_rows later_row
later_sources [] ts = (length ts, blank_sources ts)
later_sources (s ∷ ss) [] = with_cons s (map source_of (later_rows ss [])) ss (later_sources ss [])
later_sources (s ∷ ss) (t ∷ ts) = with_cons s (map source_of (later_rows ss ts)) ss (later_sources ss ts)

later_targets : (ss ts : List (List ℕ)) → With (map target_of (later_rows ss ts)) ts
unfolding later_rows later_row
later_targets [] ts = (0, same_targets ts ∙ sym (append-nil ts))
later_targets (s ∷ ss) [] = let (k, e) = later_targets ss [] in (suc k, ap {B = List (List ℕ)} (λ l. [] ∷ l) e)
later_targets (s ∷ ss) (t ∷ ts) = with_cons t (map target_of (later_rows ss ts)) ts (later_targets ss ts)

-- a column that later rows leave blank
blank_later : (f : Row → List ℕ) → ((s t : List ℕ) → f (later_row s t) ≡ []) → (ss ts : List (List ℕ))
    → map f (later_rows ss ts) ≡ replicate (length (later_rows ss ts)) []
unfolding later_rows
blank_later f h [] [] = refl
blank_later f h [] (t ∷ ts) = ap₂ ◌∷◌ (h [] t) (blank_later f h [] ts)
blank_later f h (s ∷ ss) [] = ap₂ ◌∷◌ (h s []) (blank_later f h ss [])
blank_later f h (s ∷ ss) (t ∷ ts) = ap₂ ◌∷◌ (h s t) (blank_later f h ss ts)

pub part_of : (n : ℕ) (p : Part) → PartOf n p
unfolding part_rows column later_row
part_of n p =
    let s = fill column_cells p.source in
    let t = fill column_cells (target_items p.target) in
    let (k, e) = with_cons s.row (map source_of (later_rows s.later t.later)) s.later
    (later_sources s.later t.later) in
    let (m, g) = with_cons t.row (map target_of (later_rows s.later t.later)) t.later
    (later_targets s.later t.later) in
    record {
      count = omega (arith, later_count s.later t.later);
      source_blank = k;
      source = e;
      target_blank = m;
      target = g;
      later = length (later_rows s.later t.later);
      positions = ap {B = List (List ℕ)} (λ l. decimal n ∷ l)
          (blank_later (λ (r : Row). r.position) (λ a b. refl) s.later t.later);
      ids = ap {B = List (List ℕ)} (λ l. id_cells (head_id p.head) ∷ l)
          (blank_later (λ (r : Row). r.id) (λ a b. refl) s.later t.later);
      states = ap {B = List (List ℕ)} (λ l. state_cells p.head ∷ l)
          (blank_later (λ (r : Row). r.state) (λ a b. refl) s.later t.later);
    }

pub order_5_parts : Order5Parts
unfolding Order5Parts
order_5_parts n p = part_of n p
