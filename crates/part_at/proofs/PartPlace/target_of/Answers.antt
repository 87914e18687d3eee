use Prim.Native.Nat.{ℕ, ◌+◌}
use mathlib.Core.Bool.{Bool, cond}
use mathlib.Core.Path.{sym, ap, ◌∙◌}
use Rattle.table.proofs.WidthLaws.{bytes_known}
use Rattle.part_at.proofs.HoldLaws.{target_held}
use Rattle.part_at.proofs.PartPlace.target_of.Goals.{then-has_target, else-has_target}
use Rattle.part_at.proofs.PartPlace.target_of.Goals as goal

-- &t[start..self.end]
pub returns : goal.returns
returns c =
    let t = c.args.t.now in
    let place = c.args.self in
    let choice = λ (b : Bool). cond b (place.target + 4) place.end in
    λ b p a s.
    target_held t (bytes_known t c.type_inv.t) b p a place s c.if-has_target.start
    (elim c.if-has_target.branch [
      | then-has_target w ↦ w.start-is ∙ sym (ap choice (sym c.has_target.ensures ∙ w.if-has_target.true))
      | else-has_target w ↦ w.start-is ∙ sym (ap choice (sym c.has_target.ensures ∙ w.if-has_target.false))
    ])
