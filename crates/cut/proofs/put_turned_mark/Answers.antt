use mathlib.Core.List.{List}
use mathlib.Core.Path.{sym, ap, ◌∙◌}
use Prim.Native.Nat.{ℕ}
use Rattle.marks.specs.Marks.{meaning}
use Rattle.marks.specs.declared.Mark.{Mark}
use Rattle.writer.specs.Pieces.{lead}
use Rattle.cut.specs.Turned.{turned_mark}
use Rattle.cut.proofs.put_turned_mark.Goals as goal

-- the output with a mark turned
abbrev turned : List ℕ → Mark → List ℕ
turned out m = lead (turned_mark (meaning m)) out

-- PO: `writer::put_mark(out, 0, b"SC")`
pub returns-in-PO : goal.returns-in-PO
returns-in-PO c =
    let out = c.args.out.now in
    c.put_mark-n.ensures.1 ∙ sym (ap (turned out) c.in-PO.is)

-- PC: `writer::put_mark(out, 0, b"EC")`
pub returns-in-PC : goal.returns-in-PC
returns-in-PC c =
    let out = c.args.out.now in
    c.put_mark-n-in-PC.ensures.1 ∙ sym (ap (turned out) c.in-PC.is)

-- MO: `writer::put_mark(out, 0, b"SM")`
pub returns-in-MO : goal.returns-in-MO
returns-in-MO c =
    let out = c.args.out.now in
    c.put_mark-n-in-MO.ensures.1 ∙ sym (ap (turned out) c.in-MO.is)

-- MC: `writer::put_mark(out, 0, b"EM")`
pub returns-in-MC : goal.returns-in-MC
returns-in-MC c =
    let out = c.args.out.now in
    c.put_mark-n-in-MC.ensures.1 ∙ sym (ap (turned out) c.in-MC.is)
