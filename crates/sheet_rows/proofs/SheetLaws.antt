-- The sheet part by part: the rows of each.
use Prim.Native.Nat.{ℕ, suc}
use mathlib.Core.Path.{◌≡◌, refl, sym, ap, ◌∙◌}
use mathlib.Core.List.{List, [], ◌∷◌, ◌++◌}
use Rattle.xliff.specs.Bytes.{gather}
use Rattle.xliff.specs.Unit.{Part}
use Rattle.xliff.proofs.lists.Tests.{gather_append}
use Rattle.part_texts.specs.Texts.{part_texts}
use Rattle.sheet.specs.Sheet.{part_rows, rows_from, row_bytes}

-- the bytes of a part of this number
abbrev pub part_sheet : ℕ → Part → List ℕ
part_sheet n p = gather row_bytes (part_rows n p)

pub sheet_by_part : (n : ℕ) (ps : List Part) → part_texts part_sheet n ps ≡ gather row_bytes (rows_from n ps)
unfolding part_texts rows_from gather
sheet_by_part n [] = refl
sheet_by_part n (p ∷ ps) =
    ap (λ (l : List ℕ). part_sheet n p ++ l) (sheet_by_part (suc n) ps)
    ∙ sym (gather_append row_bytes (part_rows n p) (rows_from (suc n) ps))
