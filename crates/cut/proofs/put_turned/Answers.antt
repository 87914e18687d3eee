use mathlib.Core.Bool.{Bool}
use mathlib.Core.Path.{sym, ap, ◌∙◌}
use Rattle.marks.specs.Marks.{meaning}
use Rattle.writer.specs.Pieces.{lead}
use Rattle.cut.specs.Turned.{turn_if}
use Rattle.cut.proofs.CutLaws.{turned_over, not_turned}
use Rattle.cut.proofs.put_turned.Goals as goal

-- turned: the mark over that of the copy
pub returns-then-turn : goal.returns-then-turn
returns-then-turn c =
    let args = c.args in
    let pre = c.requires in
    let put = c.put-n in
    let if1 = c.if-turn.true in
    let put-turned-mark = c.put_turned_mark in
    let t = args.t.now in
    let out = args.out.now in
    turned_over t out put.new.out put-turned-mark.new.out (meaning args.m) pre.1 pre.0 put.ensures.1
    put-turned-mark.ensures
    ∙ ap (λ (b : Bool). lead (turn_if b t) out) (sym if1)

-- not turned: the copy
pub returns-else-turn : goal.returns-else-turn
returns-else-turn c =
    let args = c.args in
    let put = c.put-n in
    let if1 = c.if-turn.false in
    let t = args.t.now in
    let out = args.out.now in
    not_turned t out put.new.out put.ensures.1 ∙ ap (λ (b : Bool). lead (turn_if b t) out) (sym if1)
