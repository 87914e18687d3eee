use mathlib.Core.Path.{◌≡◌, ◌∙◌}
use Rattle.std.specs.List.{find}
use Rattle.std.proofs.lemmas.Iterator.{YieldsList-from_slice}
use Rattle.std.proofs.lemmas.Iterator.Search.{find_from_yields_List}
use Rattle.contents.specs.Contents.{is_bar}
use Rattle.partners.proofs.Found.{bar_found, asked, values, is_target_bar}
use borrow.Author.Rules.{rules}
use borrow.Author.Tests.{tests}
use Rattle.partners.proofs.is_targeted.Goals as goal

-- the key that is found
pub returns-in-Some : goal.returns-in-Some
returns-in-Some c =
    let keys = c.args.keys.now in
    let found : values c.find.result ≡ find (is_bar) (keys) =
    find_from_yields_List (is_bar) _ _ _ c.find.ensures.ran (YieldsList-from_slice keys cc) (λ y b q is. search (rules, tests)) in
    asked (is_target_bar) _ _ _ found c.in-Some.is ∙ bar_found (keys)

-- false
pub returns-in-None : goal.returns-in-None
returns-in-None c =
    let keys = c.args.keys.now in
    let found : values c.find.result ≡ find (is_bar) (keys) =
    find_from_yields_List (is_bar) _ _ _ c.find.ensures.ran (YieldsList-from_slice keys cc) (λ y b q is. search (rules, tests)) in
    asked (is_target_bar) _ _ _ found c.in-None.is ∙ bar_found (keys)
