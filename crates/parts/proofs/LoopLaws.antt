-- The loop that writes the records of parts with their orders changed.
use Prim.Native.Nat.{ℕ, ◌+◌, ◌-◌, ◌<◌, ◌≤◌}
use mathlib.Core.Path.{◌≡◌, ap, ◌∙◌}
use mathlib.Core.List.{List, ◌++◌}
use native.Mathlib.Omega.{arith}
use lib.ListN.{length, take, drop}
use Rattle.xliff.specs.Bytes.{gather}
use Rattle.xliff.specs.Unit.{Part}
use Rattle.xliff.specs.Encode.{Record, part_records, spell}
use Rattle.xliff.specs.Good.{Each}
use Rattle.walker.specs.Offsets.{WidthAt}
use Rattle.walk.specs.Kept.{InPart}
use Rattle.cut.proofs.LoopLaws.{Written, written_start, written_on, written_end}
use Rattle.writer.specs.Pieces as pieces
use Rattle.writer.specs.Pieces.{lead}
use Rattle.parts.specs.Parts.{PartsIn, ordered, order_record, WroteOne}
use Rattle.parts.proofs.RecordLaws.{next, rest_end}
use Rattle.parts.proofs.OrderLaws.{parts_in, parts_moved, order_length, ordered_length}

-- up to the offset at of t, the records of the parts ps are written
abbrev pub PartsWritten : List ℕ → (ℕ → ℕ) → List Part → List ℕ → ℕ → List ℕ → Type 0
PartsWritten t f ps o at l = Written (Each InPart) (order_record f) t (gather part_records ps) o at l

module _ (t : List ℕ) (f : ℕ → ℕ) (ps : List Part) (o : List ℕ) where
  pub parts_start : PartsIn t ps → PartsWritten t f ps o 0 o
  parts_start (e, h) = written_start (Each InPart) (order_record f) t (gather part_records ps) o
      (record { kept = parts_in ps h; bytes = e })

  -- one record further
  pub parts_on : (at w : ℕ) (l y : List ℕ) → PartsWritten t f ps o at l → at < length t → WidthAt t at w
      → WroteOne f (take (at + w - at) (drop at t)) (take (length l - at) (drop at l)) y
      → PartsWritten t f ps o (at + w) (take at l ++ (y ++ drop (length l - at) (drop at l)))
  parts_on at w l y m h e one =
      let n = next t at w m.upto.after h m.upto.rest e in
      written_on (Each InPart) (order_record f) t (gather part_records ps) o at l m InPart w n y (order_length f n.first)
      (one n.first n.good n.slice)

  parts_wrote : (at : ℕ) (l : List ℕ) → length t ≤ at → PartsIn t ps → PartsWritten t f ps o at l → l ≡ lead (ordered f ps) o
  parts_wrote at l h (e, g) m =
      written_end (Each InPart) (order_record f) t (gather part_records ps) o at l m (rest_end t at m.upto.after h m.upto.rest)
      ∙ ap (λ (q : List Record). lead (spell q) o) (parts_moved f ps g)

  pub parts_end : (at : ℕ) (l : List ℕ) → length t ≤ at → at ≤ length t → PartsIn t ps → PartsWritten t f ps o at l → pieces.Written (ordered f ps) o at l
  parts_end at l h k g m = (omega (arith, ordered_length f t ps g), parts_wrote at l h g m)
