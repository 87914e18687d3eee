use Prim.Native.Nat.{◌*◌}
use lib.ListN.{replicate}
use Rattle.draft.specs.Drafts.{Wrote}
use Rattle.xliff.specs.Desk.{blank}
use Rattle.sheet_forms.proofs.put_blanks.Given as goal

-- so many columns of blanks
abbrev pub invariant-loop-i : goal.invariant-loop-i
invariant-loop-i l = Wrote (replicate (l.i * 33) blank) l.initial.draft l.draft
