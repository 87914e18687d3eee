use Rattle.table.proofs.read_fields.Goals as goal

-- the numbers and letters
pub returns : goal.returns
returns c =
    let number_at = c.number_at in
    let number-at2 = c.number_at-2 in
    let number-at3 = c.number_at-3 in
    simp (number_at.ensures, number-at2.ensures, number-at3.ensures)
