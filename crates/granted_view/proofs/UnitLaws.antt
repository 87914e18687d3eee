-- The view of a unit, piece by piece: UN as it stands in the table, the parts as they are shown, UE.
use Prim.Native.Nat.{ℕ}
use mathlib.Core.Path.{◌≡◌, sym, ap, ◌∙◌}
use mathlib.Core.List.{List, [], ◌∷◌, ◌++◌}
use lib.ListN.{length, take}
use Rattle.xliff.specs.Bytes.{'E', 'U', gather}
use Rattle.xliff.specs.Encode.{record_bytes, unit_records, spell, encode}
use Rattle.xliff.specs.Parse.{unit}
use Rattle.xliff.specs.Focus.{with_parts}
use Rattle.xliff.specs.Good.{bytes_of, opened, closed}
use Rattle.xliff.proofs.unit.Pieces.{table_pieces}
use Rattle.places.specs.Passes.{Passes}
use Rattle.grants.specs.Grant.{Grant}
use Rattle.grants.specs.View.{view_parts, view_unit}

module _ (t : List ℕ) (h : Passes t) where
  -- `&t[..UNIT_WIDTH]`
  opening_is : take 3 t ≡ opened (unit t)
  unfolding unit_records spell gather record_bytes
  opening_is = ap (take 3) (sym h.bytes)

  pub opening_long : 3 ≡ length (take 3 t)
  unfolding record_bytes
  opening_long = sym (ap length opening_is)

  pub view_pieces : (g : Grant)
      → (take 3 t ++ bytes_of (view_parts g 1 (unit t).parts)) ++ ('U' ∷ 'E' ∷ []) ≡ encode (view_unit g (unit t))
  unfolding record_bytes view_unit with_parts
  view_pieces g =
      ap (λ (l : List ℕ). (l ++ bytes_of (view_parts g 1 (unit t).parts)) ++ closed) opening_is
      ∙ sym (table_pieces (view_unit g (unit t)))
