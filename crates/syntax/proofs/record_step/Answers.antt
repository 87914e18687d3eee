use Rattle.syntax.proofs.record_step.Goals as goal

pub returns-in-Text : goal.returns-in-Text
returns-in-Text c = simp (c.in-Text.is, c.text_next.ensures)

pub returns-in-Inline : goal.returns-in-Inline
returns-in-Inline c =
    simp (c.in-Inline.is, c.item_next.ensures, c.bad_item.ensures)
