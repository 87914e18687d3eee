use Rattle.draft.proofs.DraftLaws.{wrote_then}
use Rattle.sheet_rows.specs.Rows.{columns}
use Rattle.sheet_rows.proofs.Columns.put_row.Goals as goal

-- both columns are written
pub returns : goal.returns
unfolding columns
returns c =
    let (forth, further, left) = c.put_row-self.ensures in
    let (forth2, further2, right) = c.put_row-self-2.ensures in (
      record { forth = forth; further = further },
      record { forth = forth2; further = further2 },
      λ xs ys a b. record {
        wrote = wrote_then (left xs a).wrote
            (wrote_then c.put.ensures (wrote_then (right ys b).wrote c.put-2.ensures));
        source_ahead = (left xs a).ahead;
        target_ahead = (right ys b).ahead;
      },
    )
