use mathlib.Core.Bool.{true}
use mathlib.Core.Path.{sym, ◌∙◌}
use Rattle.table.specs.Records.{standalone_of}
use Rattle.table.specs.declared.Item.TheVariants.{Standalone}
use Rattle.table.proofs.CodeLaws.{code_read}
use Rattle.table.proofs.standalone_of.Goals as goal

-- its fields are good
pub returns : goal.returns
unfolding standalone_of
returns c = code_read Standalone c.args.t.now true (sym c.in-Some.is ∙ c.code_of.ensures)

-- it is cut, or they are not
pub returns-in_default : goal.returns-in_default
unfolding standalone_of
returns-in_default c = code_read Standalone c.args.t.now true (sym c.in_default.is ∙ c.code_of.ensures)
