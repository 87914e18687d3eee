use Rattle.table.proofs.segment_fields.Goals as goal

-- the id, and a letter each
pub returns : goal.returns
returns c = simp c.number_at.ensures
