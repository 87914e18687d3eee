use Rattle.partners.proofs.ScanLaws.{blamed_on, blamed_end}
use Rattle.partners.specs.Partners.{lone_among_keys}
use mathlib.Core.Path.{◌∙◌, refl, sym}
use borrow.Author.Rules.{rules}
use Rattle.partners.proofs.lone_in_target.Goals as goal

-- the loop's start
pub loop-i-init : goal.loop-i-init
loop-i-init c = (search rules, search rules, refl)

-- the loop's step
pub loop-i-preserved : goal.loop-i-preserved
loop-i-preserved c =
    let args = c.args in
    let loop = c.loop-i in
    let loop-test = c.loop-i-test in
    let stays-lone = c.stays_lone in
    let wide = c.wide in (
      search rules,
      search rules,
      loop.invariant.2
          ∙ blamed_on (lone_among_keys args.bars.now) args.target.markers.now args.target.keys.now args.target.paired 7
          loop.best loop.i stays-lone.result wide.result c.lower_if-best.result loop-test.true
          stays-lone.ensures.0 wide.ensures.0 c.lower_if-best.ensures,
    )

-- best
pub returns : goal.returns
returns c =
    let args = c.args in
    let loop = c.loop-i in
    sym (loop.invariant.2
    ∙ blamed_end (lone_among_keys args.bars.now) args.target.markers.now args.target.keys.now args.target.paired 7 loop.best
    loop.i c.loop-i-test.false)
