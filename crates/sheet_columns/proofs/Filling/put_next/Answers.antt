use Rattle.sheet_columns.proofs.CursorLaws.{known_next, good_next}
use Rattle.sheet_columns.proofs.Filling.put_next.Goals as goal

-- self.put_record(draft, c, x, w)
pub put_record-requires : goal.put_record-requires
put_record-requires c =
    let ((some, more), cells, ahead) = c.requires in
    let next = known_next c.args.c.now _ _ some.0 some.1 c.if-self-gt0.false ahead c.known_at.result c.known_at.ensures in
    ((some, more), next.0, rw c.in-Good.is at next.1)

-- what is read in a content is good
pub returns-in_default : goal.returns-in_default
returns-in_default c =
    let ((some, more), cells, ahead) = c.requires in
    let next = known_next c.args.c.now _ _ some.0 some.1 c.if-self-gt0.false ahead c.known_at.result c.known_at.ensures in
    absurd (good_next c.args.c.now _ c.known_at.result next.1 c.in_default.not-Good)
