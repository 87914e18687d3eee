-- The table of a split unit, in three pieces: UN, its parts, UE.
use Prim.Native.Nat.{ℕ, ◌+◌, ◌-◌}
use mathlib.Core.Path.{◌≡◌, refl, sym, ap, ap₂, ◌∙◌}
use mathlib.Core.List.{List, ◌++◌}
use native.Mathlib.Omega.{arith}
use lib.ListN.{length, take, length-append}
use Rattle.xliff.specs.Unit.{Part, XliffUnit}
use Rattle.xliff.specs.Encode.{record_bytes, encode}
use Rattle.xliff.specs.Focus.{here, focus, with_parts}
use Rattle.xliff.specs.Split.{split_focus, split_unit}
use Rattle.xliff.proofs.lists.Slices.{tail_is}
use Rattle.xliff.specs.Good.{bytes_of, opened, closed}
use Rattle.xliff.proofs.unit.Pieces.{table_pieces}
use Rattle.parts.specs.Parts.{TableOf}
use Rattle.parts.proofs.TableLaws.{table_opened, table_closed}
use Rattle.writer.specs.Pieces.{rest}
use Rattle.writer.proofs.RunLaws.{Pieces}
use Rattle.split_result.specs.Result.{split_parts}

module _ (u : XliffUnit) (n k j id : ℕ) (b : List Part) (p : Part) (a : List Part) (e : focus u.parts n ≡ here b p a) where
  result_pieces : encode (split_unit u n k j id) ≡ (opened u ++ split_parts k j id b p a) ++ closed
  unfolding split_unit with_parts split_focus
  result_pieces =
      table_pieces (split_unit u n k j id)
      ∙ ap (λ (l : List Part). (opened u ++ bytes_of l) ++ closed) (ap (split_focus k j id u.parts) e)

  pub result_long : length (encode (split_unit u n k j id)) ≡ 5 + length (split_parts k j id b p a)
  unfolding record_bytes
  result_long =
      let s : List ℕ = split_parts k j id b p a in
      let z : length (encode (split_unit u n k j id)) ≡ length ((opened u ++ s) ++ closed) = ap length result_pieces in
      omega (arith, length-append (opened u ++ s) closed, length-append (opened u) s)

  -- and as they are written
  module _ (t : List ℕ) (h : TableOf t u) where
    pub result_is : encode (split_unit u n k j id) ≡ (take 3 t ++ split_parts k j id b p a) ++ rest (length t - 2) t
    result_is =
        result_pieces
        ∙ ap₂ (λ (x y : List ℕ). (x ++ split_parts k j id b p a) ++ y) (sym (table_opened t u h))
        (sym (tail_is (length t - 2) t ∙ table_closed t u h (length t - 2) refl))

    abbrev pub unit_pieces : Pieces (encode (split_unit u n k j id))
    unit_pieces = record { first = take 3 t; second = split_parts k j id b p a; third = rest (length t - 2) t; all = result_is }
