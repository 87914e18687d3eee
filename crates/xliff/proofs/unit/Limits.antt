-- A valid table is the bytes of its unit, and that unit is within the limits.
use Prim.Native.Nat.{ℕ, suc, ◌+◌, ◌-◌, ◌≤◌}
use native.Mathlib.Omega.{arith}
use mathlib.Core.Path.{◌≡◌, sym, ap, subst}
use mathlib.Core.Bool.{Bool, true, false, ◌&&◌, cond}
use mathlib.Core.List.{List, [], ◌∷◌, map}
use mathlib.Core.Option.{none}
use lib.Dec.{eqb}
use lib.ListN.{length}
use borrow.Author.Tests.{eqb-false}
use Rattle.xliff.specs.Bytes.{Bytes}
use Rattle.xliff.specs.Encode.{Record, unit_records, encode}
use Rattle.xliff.specs.Parse.{Entry, Stage, unit_due, is_part, first_bad, entries, records, unit, table_fault, most_records, most_parts}
use Rattle.xliff.specs.Check.{Valid, table_refusal}
use Rattle.xliff.specs.Good.{part_heads}
use Rattle.xliff.proofs.unit.Table.{first_bad_cons, table_walked, shape, closed_off, encode_unit}
use Rattle.xliff.proofs.unit.Valid.{heads_unit}
use Rattle.xliff.proofs.unit.Result.{then_left, then_right, small_table}
use Rattle.xliff.proofs.unit.Accepted.{Within}

-- how many records and parts there are where none is bad
few_by : (b : Bool) (left parts n k : ℕ) → eqb left 0 ≡ false → b && eqb parts 0 ≡ false
    → (n ≤ left - 1) × (k ≤ cond b (parts - 1) parts)
    → (suc n ≤ left) × (cond b 1 0 + k ≤ parts)
few_by true left parts n k p q h = (omega (arith, eqb-false left 0 p, h.0), omega (arith, eqb-false parts 0 q, h.1))
few_by false left parts n k p q h = (omega (arith, eqb-false left 0 p, h.0), omega (arith, h.1))

pub few_from : (size left parts : ℕ) (st : Stage) (es : List Entry) → first_bad size left parts st es ≡ none
    → (length (map (λ (e : Entry). e.the) es) ≤ left) × (part_heads (map (λ (e : Entry). e.the) es) ≤ parts)
unfolding part_heads
few_from size left parts st [] h = (omega arith, omega arith)
few_from size left parts st (e ∷ es) h =
    let p = first_bad_cons size left parts st e es h in
    let rs : List Record = map (λ (e : Entry). e.the) es in
    few_by (is_part e.the) left parts (length rs) (part_heads rs) p.left_over p.parts_left
    (few_from size (left - 1) (cond (is_part e.the) (parts - 1) parts) p.stage es p.others)

pub own_records : (t : List ℕ) → Bytes t → table_fault t ≡ none → unit_records (unit t) ≡ records t
unfolding unit unit_records closed_off records
own_records t h k = shape unit_due (records t) (table_walked t h k).runs

-- a valid table
pub valid_bytes : (t : List ℕ) → Bytes t → Valid t → encode (unit t) ≡ t
unfolding Valid table_refusal
valid_bytes t b v = encode_unit t b (then_left _ _ (then_right _ _ v))

pub valid_within : (t : List ℕ) → Bytes t → Valid t → Within (unit t)
unfolding Valid table_refusal table_fault records
valid_within t b v =
    let k : table_fault t ≡ none = then_left _ _ (then_right _ _ v) in
    let e = own_records t b k in
    let n = few_from (length t) most_records most_parts unit_due (entries t) k in
    let heads : part_heads (unit_records (unit t)) ≤ most_parts
    = subst (λ (rs : List Record). part_heads rs ≤ most_parts) (sym e) n.1 in
    record {
      size = omega (arith, small_table t v, ap length (valid_bytes t b v));
      records = subst (λ (rs : List Record). length rs ≤ most_records) (sym e) n.0;
      parts = omega (arith, heads, heads_unit (unit t));
    }
