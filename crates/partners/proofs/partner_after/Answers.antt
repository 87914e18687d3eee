use mathlib.Core.Path.{◌≡◌, ◌∙◌}
use Rattle.std.specs.List.{find}
use Rattle.std.proofs.lemmas.Iterator.{YieldsList-from_slice}
use Rattle.std.proofs.lemmas.Iterator.Search.{find_from_yields_List}
use Rattle.keys.specs.Keys.{is_other_key}
use Rattle.partners.specs.Partners.{is_mark_alike}
use Rattle.partners.proofs.Found.{partner_found, asked, values}
use borrow.Author.Rules.{rules}
use borrow.Author.Tests.{tests}
use Rattle.partners.proofs.partner_after.Goals as goal

-- the key that is found
pub returns-in-Some : goal.returns-in-Some
returns-in-Some c =
    let keys = c.args.keys.now in
    let k = c.args.k in
    let found : values c.find.result ≡ find (is_mark_alike k) (keys) =
    find_from_yields_List (is_mark_alike k) _ _ _ c.find.ensures.ran (YieldsList-from_slice keys cc) (λ y b q is. search (rules, tests)) in
    c.is_other.ensures ∙ asked (is_other_key k) _ _ _ found c.in-Some.is ∙ partner_found k (keys)

-- false
pub returns-in-None : goal.returns-in-None
returns-in-None c =
    let keys = c.args.keys.now in
    let k = c.args.k in
    let found : values c.find.result ≡ find (is_mark_alike k) (keys) =
    find_from_yields_List (is_mark_alike k) _ _ _ c.find.ensures.ran (YieldsList-from_slice keys cc) (λ y b q is. search (rules, tests)) in
    asked (is_other_key k) _ _ _ found c.in-None.is ∙ partner_found k (keys)
