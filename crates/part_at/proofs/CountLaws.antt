-- The number of the records of parts, and of a unit.
use Prim.Native.Nat.{ℕ, ◌+◌}
use mathlib.Core.Path.{◌≡◌, ap, ◌∙◌}
use mathlib.Core.List.{List, [], ◌∷◌, ◌++◌}
use native.Mathlib.Omega.{arith}
use lib.ListN.{length, length-append}
use Rattle.xliff.specs.Bytes.{gather}
use Rattle.xliff.specs.Unit.{Part, XliffUnit}
use Rattle.xliff.specs.Encode.{Record, closing, part_records, unit_records}
use Rattle.xliff.proofs.lists.Tests.{gather_append}

abbrev pub count : List Part → ℕ
count ps = length (gather part_records ps)

pub count_append : (ps qs : List Part) → count (ps ++ qs) ≡ count ps + count qs
count_append ps qs = ap (λ (l : List Record). length l) (gather_append part_records ps qs) ∙ length-append (gather part_records ps) (gather part_records qs)

pub count_cons : (p : Part) (ps : List Part) → count (p ∷ ps) ≡ length (part_records p) + count ps
unfolding gather
count_cons p ps = length-append (part_records p) (gather part_records ps)

pub unit_count : (u : XliffUnit) → length (unit_records u) ≡ 2 + count u.parts
unfolding unit_records
unit_count u = omega (arith, length-append (gather part_records u.parts) (closing ∷ []))
