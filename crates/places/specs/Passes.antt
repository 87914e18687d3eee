-- What the numbers 2, 3 and 4 leave of a table.
use Rattle.xliff.specs.Good.{AllGood, part_heads, GoodParts}
use Rattle.std.specs.Prelude.{ℕ, ◌≤◌, ◌≡◌, List, length}
use Rattle.xliff.specs.Encode.{unit_records, spell}
use Rattle.xliff.specs.Parse.{unit, most_parts, most_records}

-- a table that passes 2, 3 and 4: its unit's records are good, few, and all of its bytes
pub record Passes (t : List ℕ) : Type 0 where
  pub good : AllGood (unit_records (unit t))
  pub bytes : spell (unit_records (unit t)) ≡ t
  pub few : length (unit_records (unit t)) ≤ most_records
  pub few_parts : part_heads (unit_records (unit t)) ≤ most_parts
  pub good_parts : GoodParts (unit t).parts
