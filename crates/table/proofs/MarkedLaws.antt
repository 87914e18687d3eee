-- The record of the mark that a test mark-found.
use Prim.Native.Nat.{ℕ, ◌≤◌}
use mathlib.Core.Path.{◌≡◌}
use mathlib.Core.Bool.{Bool, true}
use mathlib.Core.List.{List, [], ◌∷◌}
use lib.ListN.{length}
use Rattle.xliff.specs.Parse.{Mark, mark_of, mark_at}
use Rattle.marks.specs.Marks.{marked}
use Rattle.marks.proofs.MarkLaws.{mark_found}
use Rattle.table.specs.Records.{record_by}

pub record_found : (f : Mark → Mark) (x y : ℕ) (t : List ℕ) (known : Bool)
    → 2 ≤ length t → marked t (x ∷ y ∷ []) ≡ true → record_by (f (mark_of x y)) t known ≡ record_by (f (mark_at t)) t known
record_found f x y t known h e = mark_found (λ (m : Mark). record_by (f m) t known) x y t h e
