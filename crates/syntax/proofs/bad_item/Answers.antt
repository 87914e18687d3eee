use Rattle.syntax.proofs.bad_item.Goals as goal

pub returns-in-Character : goal.returns-in-Character
returns-in-Character c = simp (c.in-Character.is, c.bad_character.ensures)
