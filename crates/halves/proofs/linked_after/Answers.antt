use mathlib.Core.Path.{sym, ◌∙◌}
use Rattle.halves.proofs.NoHalves.{no_half_after}
use Rattle.halves.proofs.linked_after.Goals as goal

-- return None
pub returns-then-half_of-eq0 : goal.returns-then-half_of-eq0
returns-then-half_of-eq0 c =
    no_half_after c.args.keys.now c.args.i c.requires.3 (sym c.half_of.ensures ∙ c.if-half_of-eq0.true)
