use native.Mathlib.Omega.{arith}
use Rattle.sheet_columns.proofs.StepLaws.{entered_filled}
use Rattle.sheet_columns.proofs.Filling.put_record.Goals as goal

-- at: self.next.at + marks::TEXT_WIDTH
pub overflow_add-self : goal.overflow_add-self
overflow_add-self c =
    let (going, none, next) = c.requires in
    let text = rw c.in-Text.is at next in
    omega (arith, text.wide, text.fits)

-- left: w - marks::TEXT_WIDTH
pub overflow_sub-self : goal.overflow_sub-self
overflow_sub-self c =
    let (going, none, next) = c.requires in
    let text = rw c.in-Text.is at next in
    omega (arith, text.wide)

-- Record::Text: a text is entered
pub returns-in-Text : goal.returns-in-Text
returns-in-Text c =
    let ((some, more), none, next) = c.requires in
    entered_filled c.args.c.now c.args.self.now c.args.draft.now more none c.args.w (rw c.in-Text.is at next)
