use Rattle.source_match.proofs.bad_copy_in_source.Goals as goal

-- views::is_code(x) & !(x.of == 0)
pub returns : goal.returns
returns c = simp c.is_code.ensures
