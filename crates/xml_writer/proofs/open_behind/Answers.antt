use Rattle.std.proofs.Common.{inl, inr}
use Rattle.xml_writer.proofs.open_behind.Goals as goal

-- open_in(within, x)
pub returns-in-Good : goal.returns-in-Good
returns-in-Good c = rw (c.in-Good.is, c.open_in.ensures)

-- Read::Ill | Read::Broken(_) => within
pub returns-in-Ill : goal.returns-in-Ill
returns-in-Ill c = elim c.in-Ill.is [ inl e ↦ rw e | inr (b, e) ↦ rw e ]
