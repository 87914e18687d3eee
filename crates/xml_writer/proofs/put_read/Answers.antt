use Rattle.std.proofs.Common.{inl, inr}
use Rattle.draft.proofs.DraftLaws.{wrote_nothing}
use Rattle.xml_writer.specs.Records.{record_text}
use Rattle.xml_writer.proofs.put_read.Goals as goal

-- put_record(draft, t, at, within, x, w)
pub put_record-requires : goal.put_record-requires
put_record-requires c =
    let pre = c.requires in
    rw c.in-Good.is at pre

-- Read::Good(x, w)
pub returns-in-Good : goal.returns-in-Good
returns-in-Good c =
    let put_record = c.put_record in
    rw c.in-Good.is put_record.ensures

-- Read::Ill | Read::Broken(_) => {}
pub returns-in-Ill : goal.returns-in-Ill
unfolding record_text
returns-in-Ill c =
    elim c.in-Ill.is [ inl e ↦ rw e (λ rs a. wrote_nothing) | inr (b, e) ↦ rw e (λ rs a. wrote_nothing) ]
