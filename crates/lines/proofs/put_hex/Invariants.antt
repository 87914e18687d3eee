use lib.ListN.{length, take}
use Prim.Native.Nat.{◌≤◌, ◌*◌}
use mathlib.Core.Path.{◌≡◌}
use Rattle.writer.specs.Pieces.{lead}
use Rattle.lines.specs.Lines.{hex}
use Rattle.lines.proofs.put_hex.Given as goal

abbrev pub invariant-loop-b : goal.invariant-loop-b
invariant-loop-b l =
    (l.b-index ≤ length l.t)
    × (l.at ≡ 2 * l.b-index)
    × (length l.out ≡ length l.initial.out)
    × (l.at ≡ length (hex (take l.b-index l.t)))
    × (l.out ≡ lead (hex (take l.b-index l.t)) l.initial.out)
