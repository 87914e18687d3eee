use mathlib.Core.Path.{sym, ap, ◌∙◌}
use Rattle.std.specs.Prelude.{Option}
use Rattle.walk.specs.declared.HalfKind.{HalfKind}
use Rattle.walk.specs.Kept.{items}
use Rattle.walk.specs.Marks.{has_other}
use Rattle.walk.proofs.WalkLaws.{no_other}
use Rattle.walk.proofs.has_other.Goals as goal

-- None: no half
pub returns-in-None : goal.returns-in-None
returns-in-None c =
    let id = c.args.id in
    λ rs o. sym (ap (λ (k : Option HalfKind). has_other k id (items rs)) c.in-None.is ∙ no_other id (items rs))
