use Rattle.letters.proofs.bad_alone.Goals as goal

-- | (source & (code & ((x.reorder == b'N') & !led)))
pub returns : goal.returns
returns c =
    let is_inline_code = c.is_code-code in
    simp is_inline_code.ensures
