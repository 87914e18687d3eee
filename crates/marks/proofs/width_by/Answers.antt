use mathlib.Core.Path.{sym, ap, ◌∙◌}
use Prim.Native.Nat.{ℕ, ◌+◌}
use Rattle.xliff.specs.Parse.{size_of}
use Rattle.marks.specs.Marks.{meaning}
use Rattle.marks.specs.declared.Mark.{Mark}
use Rattle.marks.proofs.width_by.Goals as goal

-- a text: the length behind its mark
pub returns-in-TX : goal.returns-in-TX
returns-in-TX c =
    let t = c.args.t.now in
    ap (λ (n : ℕ). 4 + n) (c.wide.ensures.0 ∙ c.number_at.ensures)
    ∙ sym (ap (λ (m : Mark). size_of (meaning m) t) c.in-TX.is)
