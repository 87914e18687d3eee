use Rattle.xliff.specs.Unit.{head_id}
use Rattle.sheet.specs.Sheet.{state_cells}
use Rattle.sheet_rows.specs.Rows.{head_margin}
use Rattle.sheet_rows.proofs.put_head.Goals as goal

-- Read::Good(Record::Segment(f), _) => put_margin(draft, n, f.id, &[f.state])
pub returns-in-Good-Segment-default : goal.returns-in-Good-Segment-default
unfolding head_margin head_id state_cells
returns-in-Good-Segment-default c =
    let read = c.in-Good-Segment-default in
    let head = rw read.is at read.field-0-is in
    rw (read.is, head) c.put_margin.ensures

-- Read::Good(Record::Ignorable(id), _) => put_margin(draft, n, id, b"")
pub returns-in-Good-Ignorable-default : goal.returns-in-Good-Ignorable-default
unfolding head_margin head_id state_cells
returns-in-Good-Ignorable-default c =
    let read = c.in-Good-Ignorable-default in
    let head = rw read.is at read.field-0-is in
    rw (read.is, head) c.put_margin-in-Good-Ignorable-default.ensures
