use mathlib.Core.Path.{refl}
use Rattle.table_builder.specs.Building.{CodePointPut}
use Rattle.table_builder.proofs.TextLaws.{further_passes, further_held}
use Rattle.table_builder.proofs.TableBuilder.put_further.Goals as goal

-- return: the code point passes a limit
pub returns-then-self-wide-clause-put : goal.returns-then-self-wide-clause-put
unfolding CodePointPut
returns-then-self-wide-clause-put c =
    let (at_most, free, opened) = c.requires in
    λ done run held. further_passes held free opened c.args.c c.width-wide.ensures.0 c.if-self-wide.true refl

-- self.text = long
pub returns-clause-put : goal.returns-clause-put
unfolding CodePointPut
returns-clause-put c =
    let (at_most, free, opened) = c.requires in
    let point = c.put_code_point-end in
    λ done run held.
    further_held held free opened c.args.c c.width-wide.ensures.0 point.ensures.0 point.ensures.1
    c.put_number-text_at.ensures.1 c.if-self-wide.false free refl refl refl refl refl
