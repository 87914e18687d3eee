-- A unit of good parts within the limits, as bytes: it passes 1 to 4 and is read back as that unit, whichever of the
-- rules 5 to 10 it meets.
use Rattle.xliff.specs.Good.{GoodRecord, AllGood, part_heads, GoodParts}
use Prim.Native.Nat.{ℕ, ◌≤◌}
use mathlib.Core.Path.{◌≡◌, sym, ap, subst}
use mathlib.Core.List.{List, ◌∷◌}
use native.Mathlib.Omega.{arith}
use lib.ListN.{length}
use lib.Dec.{ltb}
use Rattle.xliff.specs.Unit.{Part, XliffUnit}
use Rattle.xliff.specs.Encode.{opening, unit_records, encode}
use Rattle.xliff.specs.Parse.{unit, most_bytes, most_parts, most_records}
use Rattle.xliff.specs.Check.{too_large}
use Rattle.xliff.proofs.records.Parse.{records_unit}
use Rattle.xliff.proofs.unit.Valid.{unit_runs, heads_unit}
use Rattle.xliff.proofs.unit.Accepted as limits
use Rattle.places.specs.Passes.{Passes}

pub record GoodUnit (v : XliffUnit) : Type 0 where
  pub letter : GoodRecord (opening v.opening)
  pub first : Part
  pub others : List Part
  pub parts : v.parts ≡ first ∷ others
  pub good : GoodParts v.parts
  pub size : length (encode v) ≤ most_bytes
  pub few : length (unit_records v) ≤ most_records
  pub few_parts : length v.parts ≤ most_parts

module _ (v : XliffUnit) (g : GoodUnit v) where
  all_good : AllGood (unit_records v)
  all_good = (unit_runs v g.first g.others g.parts g.letter g.good).0

  pub read_back : unit (encode v) ≡ v
  read_back = records_unit v all_good (let z = g.few in omega arith)

  pub result_passes : Passes (encode v)
  unfolding encode
  result_passes =
      record {
        good = subst (λ (u : XliffUnit). AllGood (unit_records u)) (sym read_back) all_good;
        bytes = ap encode read_back;
        few = subst (λ (u : XliffUnit). length (unit_records u) ≤ most_records) (sym read_back) g.few;
        few_parts = subst (λ (u : XliffUnit). part_heads (unit_records u) ≤ most_parts) (sym read_back) (let z = g.few_parts in omega (arith, heads_unit v));
        good_parts = subst (λ (u : XliffUnit). GoodParts u.parts) (sym read_back) g.good;
      }

  -- within the limits 15 is only a matter of the room
  pub only_room : (room : ℕ) → too_large room v ≡ ltb room (length (encode v))
  only_room room = limits.only_room v (record { size = g.size; records = g.few; parts = g.few_parts }) room
