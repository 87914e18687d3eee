use Rattle.nesting.proofs.is_half_p.Goals as goal

-- a half, in form P
pub returns : goal.returns
returns c = simp (c.half_of.ensures, c.is_form_p.ensures)
