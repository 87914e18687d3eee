use Rattle.table_builder.specs.Building.{CodePointPut}
use Rattle.table_builder.proofs.TextLaws.{text_beyond}
use Rattle.table_builder.proofs.TableBuilder.put_code_point.Goals as goal

-- return: a limit is passed already
pub returns-then-self-clause-put : goal.returns-then-self-clause-put
unfolding CodePointPut
returns-then-self-clause-put c = λ done run held. text_beyond held c.if-self.true c.args.c
