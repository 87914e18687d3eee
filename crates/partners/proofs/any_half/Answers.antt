use mathlib.Core.Path.{◌∙◌}
use Rattle.std.proofs.lemmas.Iterator.{YieldsList-from_slice}
use Rattle.std.proofs.lemmas.Iterator.Search.{any_from_yields_List}
use Rattle.partners.specs.Partners.{is_half_of_id}
use Rattle.partners.proofs.Found.{any_is}
use borrow.Author.Rules.{rules}
use borrow.Author.Tests.{tests}
use Rattle.partners.proofs.any_half.Goals as goal

pub returns : goal.returns
unfolding is_half_of_id
returns c =
    let keys = c.args.keys.now in
    let is_half = is_half_of_id c.args.id in
    any_from_yields_List is_half _ _ _ c.any.ensures.ran (YieldsList-from_slice keys cc)
    (λ k b q is. search (rules, tests)) ∙ any_is is_half keys
