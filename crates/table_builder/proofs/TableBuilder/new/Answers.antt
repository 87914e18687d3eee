use mathlib.Core.Path.{refl}
use Rattle.table_builder.proofs.RecordLaws.{empty}
use Rattle.table_builder.proofs.TableBuilder.new.Goals as goal

-- TableBuilder { table, used: 0, .. }
pub returns-clause-holds : goal.returns-clause-holds
returns-clause-holds c = empty refl refl refl refl refl
