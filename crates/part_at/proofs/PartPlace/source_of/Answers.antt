use Rattle.table.proofs.WidthLaws.{bytes_known}
use Rattle.part_at.proofs.HoldLaws.{holds_source}
use Rattle.part_at.proofs.PartPlace.source_of.Goals as goal

-- &t[self.source..self.target]
pub returns : goal.returns
returns c = λ b p a s. holds_source c.args.t.now (bytes_known c.args.t.now c.type_inv.t) b p a c.args.self s
