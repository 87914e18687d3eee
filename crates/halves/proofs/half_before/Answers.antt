use mathlib.Core.Path.{sym, ◌∙◌}
use Rattle.halves.proofs.NoHalves.{no_half_before}
use Rattle.halves.proofs.half_before.Goals as goal

-- return None
pub returns-then-half_of-eq0 : goal.returns-then-half_of-eq0
returns-then-half_of-eq0 c =
    no_half_before c.args.keys.now c.args.i (sym c.half_of.ensures ∙ c.if-half_of-eq0.true)
