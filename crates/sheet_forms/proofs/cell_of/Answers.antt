use native.Mathlib.Omega.{arith}
use Rattle.xliff.specs.Bytes.{among}
use Rattle.sheet.specs.Column.{cell}
use Rattle.sheet_forms.proofs.FormLaws.{tab_or_feed, other_cell}
use Rattle.sheet_forms.proofs.cell_of.Goals as goal

-- b'\r' => b'.'
pub returns-in-9 : goal.returns-in-9
unfolding cell among
returns-in-9 c = rw c.in-9.is

-- b'\t' | b'\n' => b'.'
pub returns-in-9-2 : goal.returns-in-9-2
returns-in-9-2 c = tab_or_feed c.args.b (omega arith) (omega arith)

-- _ => b, below a tab and above
pub returns-in_default : goal.returns-in_default
returns-in_default c = other_cell c.args.b (λ e. omega arith) (λ e. omega arith) (λ e. omega arith)

pub returns-in_default-2 : goal.returns-in_default-2
returns-in_default-2 c = other_cell c.args.b (λ e. omega arith) (λ e. omega arith) (λ e. omega arith)
