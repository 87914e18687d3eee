use Rattle.std.proofs.lemmas.Result.{err_from_is_err_and}
use Prim.Native.Nat.{suc}
use mathlib.Core.Path.{refl}
use native.Mathlib.Omega.{arith}
use Rattle.xml.specs.Elements.{part_due}
use Rattle.xml_element.specs.Opens.{start_tokens}
use Rattle.xml_part.specs.Parts.{Missing}
use Rattle.xml_part.proofs.StepLaws.{start_bad, more_collected}
use Rattle.xml_part.proofs.TagSteps.{part_tag}
use Rattle.xml_unit.proofs.UnitLaws.{no_parts, part_on, parts_bad, parts_end}
use Rattle.xml_unit.proofs.parts.Goals as goal

-- the loop begins
pub loop-tag-init : goal.loop-tag-init
loop-tag-init c = no_parts c.args.text.now c.args.start c.args.builder.now c.requires.0

-- tag_behind(text, at)?: no tag
pub returns-in_err-tag : goal.returns-in_err-tag
unfolding Missing
returns-in_err-tag c =
    let args = c.args in
    let loop = c.loop-tag in
    let p = err_from_is_err_and c.from_residual.result c.from_residual.ensures.1 in
    rw (p.1, p.2)
    (parts_bad args.text.now args.start args.builder.now loop.at loop.builder loop.count loop.invariant _
    (c.in_err-tag.ensures _ (part_tag loop.count)))

-- part(text, tag, builder, count)
pub part-requires : goal.part-requires
part-requires c =
    let loop = c.loop-tag in
    let found = rw c.in-Start.is at c.in_ok-tag.ensures in
    let passed = loop.invariant.passed in (
      found.1,
      omega (arith, loop.invariant.few, found.0.ahead),
      more_collected passed.records c.requires.1 passed.collects passed.heads_are (omega arith),
    )

-- part(text, tag, builder, count)?: a place at fault
pub returns-in_err-at-in-Start : goal.returns-in_err-at-in-Start
returns-in_err-at-in-Start c =
    let args = c.args in
    let text = args.text.now in
    let loop = c.loop-tag in
    let residual = c.from_residual-in_err-at-in-Start in
    let p = err_from_is_err_and residual.result residual.ensures.1 in
    let found = rw c.in-Start.is at c.in_ok-tag.ensures in
    rw (p.1, p.2)
    (parts_bad text args.start args.builder.now loop.at loop.builder loop.count loop.invariant _
    (start_bad text loop.at c.in-Start.tag _ found.2 (part_due loop.count) c.in_err-at-in-Start.ensures))

-- at = part(..)?; count += 1
pub loop-tag-preserved : goal.loop-tag-preserved
loop-tag-preserved c =
    let args = c.args in
    let text = args.text.now in
    let loop = c.loop-tag in
    let tag = c.in-Start.tag in
    let found = rw c.in-Start.is at c.in_ok-tag.ensures in
    part_on text args.start args.builder.now loop.at loop.builder loop.count loop.invariant tag.name.upto
    c.in_ok-at-in-Start.at (start_tokens text tag) c.part.new.builder found.0 found.2 c.in_ok-at-in-Start.ensures

-- return unit_end(text, end, builder)
pub returns-in-Close : goal.returns-in-Close
returns-in-Close c =
    let args = c.args in
    let loop = c.loop-tag in
    let unit_end = c.unit_end in
    let found = rw c.in-Close.is at c.in_ok-tag.ensures in
    parts_end args.text.now args.start args.builder.now loop.at loop.builder loop.count loop.invariant c.in-Close.end
    unit_end.new.builder found.1 unit_end.result unit_end.ensures
