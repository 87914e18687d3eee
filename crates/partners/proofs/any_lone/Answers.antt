use mathlib.Core.Path.{refl, ◌∙◌}
use lib.ListN.{length}
use native.Mathlib.Omega.{arith}
use Rattle.std.proofs.lemmas.Iterator.{YieldsList-from_range}
use Rattle.std.proofs.lemmas.Iterator.Search.{any_from_yields_List}
use Rattle.partners.specs.Partners.{lone_s_Key}
use Rattle.partners.proofs.Found.{some_is, passes_at}
use borrow.Author.Rules.{rules}
use borrow.Author.Tests.{tests}
use Rattle.partners.proofs.any_lone.Goals as goal

pub returns : goal.returns
returns c =
    let keys = c.args.keys.now in
    any_from_yields_List (passes_at lone_s_Key keys) _ _ _ c.any.ensures.ran (YieldsList-from_range 0 (length keys) (length keys) refl (omega arith))
    (λ i b q is. search (rules, tests)) ∙ some_is lone_s_Key keys
