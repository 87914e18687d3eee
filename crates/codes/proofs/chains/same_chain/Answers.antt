use mathlib.Core.Bool.{Bool, ◌&&◌}
use mathlib.Core.Path.{sym, ap, ◌∙◌}
use borrow.Author.Tests.{not-true, not-false}
use Rattle.xliff.specs.SetTarget.{same_chain}
use Rattle.codes.specs.Chains.{followers}
use Rattle.codes.proofs.chains.same_chain.Goals as goal

-- the F are not the same
pub returns-then-not-same_fixed : goal.returns-then-not-same_fixed
unfolding same_chain
returns-then-not-same_fixed c =
    let same_fixed = c.same_fixed in
    let if1 = c.if-not-same_fixed.true-raw in
    λ rs qs o p.
    let apart = sym same_fixed.ensures ∙ not-true _ if1 in
    sym (ap (λ (b : Bool). b && same_chain (followers rs) (followers qs)) apart)

-- they are: so it goes by what follows them
pub returns : goal.returns
unfolding same_chain
returns c =
    let same_fixed = c.same_fixed in
    let if1 = c.if-not-same_fixed.false-raw in
    let same_codes = c.same_codes in
    λ rs qs o p.
    let same = sym same_fixed.ensures ∙ not-false _ if1 in
    same_codes.ensures rs qs o p ∙ sym (ap (λ (b : Bool). b && same_chain (followers rs) (followers qs)) same)
