-- An accepted operation: the sent unit and the result's unit are in order, and the result is the bytes of that unit. So
-- the result is valid, it is read back as that unit, and it is bytes if the unit's numbers fit.
use Prim.Native.Nat.{ℕ, ◌≤◌}
use native.Mathlib.Omega.{arith}
use mathlib.Core.Path.{◌≡◌, sym, ap, ◌∙◌, subst}
use mathlib.Core.Bool.{false}
use mathlib.Core.List.{List, [], ◌∷◌}
use lib.ListN.{length}
use lib.Dec.{ltb}
use borrow.Author.Tests.{ltb-false, le-ltb}
use Rattle.xliff.specs.Bytes.{Bytes, gather}
use Rattle.xliff.specs.Unit.{XliffUnit}
use Rattle.xliff.specs.Encode.{closing, part_records, unit_records, encode}
use Rattle.xliff.specs.Parse.{most_bytes, most_records, most_parts, unit}
use Rattle.xliff.specs.Check.{Valid, too_large}
use Rattle.xliff.specs.Good.{each_nil, each_cons}
use Rattle.xliff.proofs.lists.Each.{each_append}
use Rattle.xliff.proofs.lists.Tests.{or_left, or_right, or_none}
use Rattle.xliff.proofs.records.Parse.{records_unit}
use Rattle.xliff.proofs.operations.SplitTarget.{fault_5_fits}
use Rattle.xliff.proofs.unit.Valid.{unit_runs}
use Rattle.xliff.proofs.unit.Result.{Sent, result_valid}
use Rattle.xliff.proofs.records.Fits.{FitParts, parts_to, fit_bytes}

pub record Accepted (t : List ℕ) (v : XliffUnit) (r : List ℕ) : Type 0 where
  pub was : Sent (unit t)
  pub now : Sent v
  pub bytes : encode v ≡ r
  pub room : ℕ
  pub fits : too_large room v ≡ false

pub accepted_valid : (t : List ℕ) (v : XliffUnit) (r : List ℕ) → Accepted t v r → Valid r
accepted_valid t v r a = subst Valid a.bytes (result_valid a.room v a.now a.fits)

-- within the limits
pub record Within (v : XliffUnit) : Type 0 where
  pub size : length (encode v) ≤ most_bytes
  pub records : length (unit_records v) ≤ most_records
  pub parts : length v.parts ≤ most_parts

pub within : (room : ℕ) (v : XliffUnit) → too_large room v ≡ false → Within v
unfolding too_large
within room v e =
    let f = or_right (ltb room (length (encode v))) _ e in
    let g = or_right (ltb most_bytes (length (encode v))) _ f in
    record {
      size = ltb-false most_bytes (length (encode v)) (or_left _ _ f);
      records = ltb-false most_records (length (unit_records v)) (or_left _ _ g);
      parts = ltb-false most_parts (length v.parts) (or_right (ltb most_records (length (unit_records v))) _ g);
    }

-- within the limits 15 is only a matter of the room
pub only_room : (v : XliffUnit) → Within v → (room : ℕ) → too_large room v ≡ ltb room (length (encode v))
unfolding too_large
only_room v w room =
    rw (
      le-ltb most_bytes (length (encode v)) w.size,
      le-ltb most_records (length (unit_records v)) w.records,
      le-ltb most_parts (length v.parts) w.parts,
    )
    (or_none (ltb room (length (encode v))))

-- a unit in order and within the limits is, as bytes, read back

pub read_back : (v : XliffUnit) → Sent v → Within v → unit (encode v) ≡ v
read_back v s w =
    let (good, runs) = unit_runs v s.first s.others s.parts s.letter s.good in
    records_unit v good (omega (arith, w.records))

pub accepted_unit : (t : List ℕ) (v : XliffUnit) (r : List ℕ) → Accepted t v r → unit r ≡ v
accepted_unit t v r a = ap unit (sym a.bytes) ∙ read_back v a.now (within a.room v a.fits)

pub accepted_bytes : (t : List ℕ) (v : XliffUnit) (r : List ℕ) → Accepted t v r → FitParts v.parts → Bytes r
unfolding encode unit_records
accepted_bytes t v r a f =
    let s = a.now in
    let (good, runs) = unit_runs v s.first s.others s.parts s.letter s.good in
    let w = within a.room v a.fits in
    let size = w.size in
    let count = w.parts in
    subst Bytes a.bytes
    (fit_bytes (unit_records v) good
    (each_cons tt (each_append (gather part_records v.parts) (closing ∷ [])
    (parts_to (length v.parts) [] v.parts (omega arith) (fault_5_fits v.parts s.rule_5) f) (each_cons tt each_nil)))
    (omega arith))
