use mathlib.Core.Bool.{false}
use mathlib.Core.Path.{sym, ◌∙◌}
use Rattle.table.specs.Records.{isolated_of}
use Rattle.table.specs.declared.Item.TheVariants.{Isolated}
use Rattle.table.proofs.CodeLaws.{code_read}
use Rattle.table.proofs.isolated_of.Goals as goal

-- its fields are good
pub returns : goal.returns
unfolding isolated_of
returns c = code_read (Isolated c.args.half) c.args.t.now false (sym c.in-Some.is ∙ c.code_of.ensures)

-- it is cut, or they are not
pub returns-in_default : goal.returns-in_default
unfolding isolated_of
returns-in_default c = code_read (Isolated c.args.half) c.args.t.now false (sym c.in_default.is ∙ c.code_of.ensures)
