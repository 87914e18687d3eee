use Rattle.draft.proofs.DraftLaws.{wrote_then}
use Rattle.sheet_rows.specs.Rows.{margin}
use Rattle.sheet_rows.proofs.put_margin.Goals as goal

-- three columns, with a blank behind each
pub returns : goal.returns
unfolding margin
returns c =
    wrote_then c.put_number.ensures (wrote_then c.put.ensures
    (wrote_then c.put_id.ensures (wrote_then c.put-2.ensures (wrote_then c.put_padded.ensures c.put-3.ensures))))
