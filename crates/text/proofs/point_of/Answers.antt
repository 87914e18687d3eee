use Rattle.text.proofs.point_of.Goals as goal

-- Some(Character { .. })
pub returns : goal.returns
returns c = simp c.is_accent.ensures
