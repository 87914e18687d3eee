use Rattle.std.proofs.Common.{inl, inr}
use Rattle.xml_writer.proofs.open_in.Goals as goal

-- target_open(within)
pub returns-in-Target : goal.returns-in-Target
returns-in-Target c = rw (c.in-Target.is, c.target_open.ensures)

-- Record::Text | Record::Inline(_) => within
pub returns-in-Text : goal.returns-in-Text
returns-in-Text c = elim c.in-Text.is [ inl e ↦ rw e | inr (x, e) ↦ rw e ]
