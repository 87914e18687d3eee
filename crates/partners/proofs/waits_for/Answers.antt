use Rattle.partners.proofs.ScanLaws.{some_on, some_off, some_end}
use Rattle.partners.specs.Partners.{waits_key}
use mathlib.Core.Path.{sym, ◌∙◌, refl}
use borrow.Author.Rules.{rules}
use Rattle.partners.proofs.waits_for.Goals as goal

-- the loop's start
pub loop-i-init : goal.loop-i-init
loop-i-init c = (search rules, search rules, refl)

-- return true
pub returns-then-waits : goal.returns-then-waits
returns-then-waits c =
    let args = c.args in
    let loop = c.loop-i in
    let loop-test = c.loop-i-test in
    let waits-call = c.waits in (
      sym (loop.invariant.2
          ∙ some_on (waits_key args.x) args.bars.now loop.i loop-test.true
          (sym waits-call.ensures.0 ∙ c.if-waits.true)),
      search rules,
    )

-- the loop's step
pub loop-i-preserved : goal.loop-i-preserved
loop-i-preserved c =
    let args = c.args in
    let loop = c.loop-i in
    let loop-test = c.loop-i-test in
    let waits-call = c.waits in (
      search rules,
      search rules,
      loop.invariant.2
          ∙ some_off (waits_key args.x) args.bars.now loop.i loop-test.true
          (sym waits-call.ensures.0 ∙ c.if-waits.false),
    )

-- false
pub returns : goal.returns
returns c =
    let args = c.args in
    let loop = c.loop-i in
    (sym (loop.invariant.2 ∙ some_end (waits_key args.x) args.bars.now loop.i c.loop-i-test.false), search rules)
