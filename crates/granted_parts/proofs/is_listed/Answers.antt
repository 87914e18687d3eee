use mathlib.Core.Path.{◌∙◌}
use Rattle.std.proofs.Common.{eqb, rules, tests}
use Rattle.std.proofs.lemmas.Iterator.{YieldsList-from_slice}
use Rattle.std.proofs.lemmas.Iterator.Search.{any_from_yields_List}
use Rattle.granted_parts.proofs.AmongLaws.{among_any}
use Rattle.granted_parts.proofs.is_listed.Goals as goal

-- positions.iter().any(|p| n == usize::from(*p))
pub returns : goal.returns
returns c =
    let args = c.args in
    let ps = args.positions.now in
    any_from_yields_List (λ p. eqb args.n p) _ _ _ c.any.ensures.ran (YieldsList-from_slice ps cc)
    (λ x b q k. search (rules, tests)) ∙ among_any args.n ps
