use Rattle.letters.proofs.is_leading.Goals as goal

-- views::is_code(x) & (x.reorder == b'F')
pub returns : goal.returns
returns c = simp c.is_code.ensures
