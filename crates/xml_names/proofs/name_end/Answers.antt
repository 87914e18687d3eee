use mathlib.Core.Path.{sym, ◌∙◌}
use borrow.Author.Rules.{rules}
use Rattle.xml_names.proofs.NameLaws.{name_begins, name_goes_on}
use Rattle.xml_names.proofs.name_end.Goals as goal

-- the loop's start
pub loop-at-init : goal.loop-at-init
loop-at-init c =
    let args = c.args in
    name_begins args.text.now args.from (search rules)

-- return at
pub returns-then-not-name_goes_on : goal.returns-then-not-name_goes_on
returns-then-not-name_goes_on c =
    record { read = c.loop-at.invariant; stops = λ h. sym c.name_goes_on.ensures ∙ c.if-not-name_goes_on.true }

-- the loop's step
pub loop-at-preserved : goal.loop-at-preserved
loop-at-preserved c =
    let args = c.args in
    let loop = c.loop-at in
    name_goes_on args.text.now args.from loop.at loop.invariant (search rules)
    (sym c.name_goes_on.ensures ∙ c.if-not-name_goes_on.false)

-- at, where the text ends
pub returns : goal.returns
returns c = record { read = c.loop-at.invariant; stops = λ h. absurd (let z : ⊥ = search rules in z) }
