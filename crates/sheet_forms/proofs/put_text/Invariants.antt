use mathlib.Core.Path.{◌≡◌}
use mathlib.Core.List.{List, ◌++◌, map}
use Prim.Native.Nat.{ℕ}
use Rattle.std.specs.Slice.Iter.{chunks_rest, chunks_size}
use Rattle.draft.specs.Drafts.{Wrote}
use Rattle.sheet.specs.Column.{cell}
use Rattle.sheet_forms.proofs.put_text.Given as goal

-- the cells of the pieces so far, and behind them those of the rest
abbrev pub invariant-loop-piece : goal.invariant-loop-piece
invariant-loop-piece l =
    goal.iterator-loop-piece.can_next l.piece-iterator × goal.iterator-loop-piece.is_finite l.piece-iterator
    × (chunks_size l.piece-iterator ≡ 132)
    × (done : List ℕ) × Wrote (map cell done) l.initial.draft l.draft × (done ++ chunks_rest l.piece-iterator ≡ l.text)
