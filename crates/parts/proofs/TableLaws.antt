-- The table of a unit, taken apart: UN, its parts, UE. No part is empty.
use Prim.Native.Nat.{ℕ, ◌+◌, ◌-◌, ◌≤◌}
use mathlib.Core.Path.{◌≡◌, sym, ap, ◌∙◌}
use mathlib.Core.List.{List, ◌++◌, append_assoc}
use native.Mathlib.Omega.{arith}
use lib.ListN.{length, take, drop, length-append}
use lib.Seq.{drop_at, length-take-le}
use Rattle.xliff.specs.Bytes.{gather}
use Rattle.xliff.specs.Unit.{XliffUnit, Part}
use Rattle.xliff.specs.Encode.{record_bytes, part_records, spell, part_head, content_records, target_records}
use Rattle.xliff.specs.Good.{bytes_of, opened, closed}
use Rattle.xliff.proofs.unit.Pieces.{table_pieces}
use Rattle.parts.specs.Parts.{TableOf}
use Rattle.walk.proofs.RecordLaws.{head_least}

pub part_least : (p : Part) → 4 ≤ length (spell (part_records p))
unfolding spell gather part_records
part_least p =
    omega (
      arith,
      head_least p.head,
      length-append (record_bytes (part_head p.head)) (spell (content_records p.source ++ target_records p.target)),
    )

module _ (t : List ℕ) (u : XliffUnit) (h : TableOf t u) where
  apart : t ≡ opened u ++ (bytes_of u.parts ++ closed)
  apart = sym h.0 ∙ table_pieces u ∙ append_assoc (opened u) (bytes_of u.parts) closed

  pub table_long : length t ≡ 5 + length (bytes_of u.parts)
  unfolding record_bytes
  table_long =
      let z : length t ≡ 3 + length (bytes_of u.parts ++ closed) = ap length apart
      ∙ length-append (opened u) (bytes_of u.parts ++ closed) in
      omega (arith, length-append (bytes_of u.parts) closed)

  -- `&t[..UNIT_WIDTH]` is as long as that
  pub opening_long : 3 ≡ length (take 3 t)
  opening_long = sym (length-take-le 3 t (omega (arith, table_long)))

  pub table_opened : take 3 t ≡ opened u
  unfolding record_bytes
  table_opened = ap (take 3) apart

  module _ (e : ℕ) (f : e ≡ length t - 2) where
    pub table_closed : drop e t ≡ closed
    unfolding record_bytes
    table_closed =
        ap (drop e) (sym h.0 ∙ table_pieces u)
        ∙ drop_at (opened u ++ bytes_of u.parts) closed e
        (let z : length (opened u ++ bytes_of u.parts) ≡ e =
        omega (arith, table_long, length-append (opened u) (bytes_of u.parts)) in z)
