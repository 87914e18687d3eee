use Rattle.partners.proofs.ScanLaws.{blamed_on, blamed_end}
use Rattle.partners.specs.Partners.{lone_s_Key}
use mathlib.Core.Path.{◌∙◌, refl, sym}
use borrow.Author.Rules.{rules}
use Rattle.partners.proofs.lone_in_source.Goals as goal

-- the loop's step
pub loop-i-preserved : goal.loop-i-preserved
loop-i-preserved c =
    let loop = c.loop-i in
    let loop-test = c.loop-i-test in
    let lone-s = c.lone_s in
    let wide = c.wide in (
      search rules,
      loop.invariant.1
          ∙ blamed_on lone_s_Key c.args.source.markers.now c.args.source.keys.now c.args.source.paired 7 loop.best loop.i
          lone-s.result wide.result c.lower_if-best.result loop-test.true lone-s.ensures
          wide.ensures.0 c.lower_if-best.ensures,
    )

-- best
pub returns : goal.returns
returns c =
    let loop = c.loop-i in
    sym (loop.invariant.1
    ∙ blamed_end lone_s_Key c.args.source.markers.now c.args.source.keys.now c.args.source.paired 7 loop.best loop.i
    c.loop-i-test.false)

pub loop-i-init : goal.loop-i-init
loop-i-init c = (search rules, refl)
