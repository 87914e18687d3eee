use Rattle.overlap.proofs.is_stray.Goals as goal

-- ((class == 3) | (class == 4)) | ((class == 2) & !((first < before) | (after < end)))
pub returns : goal.returns
returns c = simp c.class_of-class.ensures
