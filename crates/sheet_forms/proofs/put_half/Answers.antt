use Rattle.sheet_forms.proofs.put_half.Goals as goal

-- Half::Start => put_start(piece, id)
pub returns-in-Start : goal.returns-in-Start
returns-in-Start c =
    let put_start = c.put_start in
    rw c.in-Start.is put_start.ensures

-- Half::End => put_end(piece, id)
pub returns-in-End : goal.returns-in-End
returns-in-End c =
    let put_end = c.put_end in
    rw c.in-End.is put_end.ensures
