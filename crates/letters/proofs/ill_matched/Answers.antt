use Rattle.letters.proofs.ill_matched.Goals as goal

-- | (!(start.delete == end.delete) | (!(start.overlap == end.overlap) | reorder)))
pub returns : goal.returns
returns c =
    let end_letter = c.end_letter-letter in
    simp end_letter.ensures
