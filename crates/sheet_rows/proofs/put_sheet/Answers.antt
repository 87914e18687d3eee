use native.Mathlib.Omega.{arith}
use mathlib.Core.Path.{sym, ◌∙◌}
use Rattle.xliff.specs.Parse.{unit}
use Rattle.draft.proofs.DraftLaws.{wrote_as}
use Rattle.part_texts.proofs.WalkLaws.{put_start, put_end, put_from, put_few, put_stands, put_less, put_on}
use Rattle.sheet.specs.Sheet.{sheet_rows, sheet_bytes}
use Rattle.sheet_rows.proofs.SheetLaws.{part_sheet, sheet_by_part}
use Rattle.sheet_rows.proofs.put_sheet.Goals as goal

-- before the first part
pub loop-place-init : goal.loop-place-init
loop-place-init c =
    let args = c.args in
    let pre = c.requires in
    put_start part_sheet args.t.now args.draft.now pre

-- let place = part_at::part_from(t, at)
pub part_from-place-requires : goal.part_from-place-requires
part_from-place-requires c =
    let if1 = c.loop-place-test.true in
    let starts-part = c.starts_part in
    let loop = c.loop-place in
    let passes = c.requires in
    put_from passes loop.invariant (sym starts-part.ensures ∙ if1)

-- put_part(draft, t, n, place)
pub put_part-requires : goal.put_part-requires
put_part-requires c =
    let part_from = c.part_from-place in
    let if1 = c.loop-place-test.true in
    let starts-part = c.starts_part in
    let loop = c.loop-place in
    let passes = c.requires in
    let is = sym starts-part.ensures ∙ if1 in
    put_stands passes loop.invariant is part_from.result part_from.ensures

-- n += 1
pub overflow_add-n : goal.overflow_add-n
overflow_add-n c =
    let if1 = c.loop-place-test.true in
    let starts-part = c.starts_part in
    let loop = c.loop-place in
    let passes = c.requires in
    omega (arith, put_few passes loop.invariant (sym starts-part.ensures ∙ if1))

-- at = place.end
pub loop-place-smaller : goal.loop-place-smaller
loop-place-smaller c =
    let part_from = c.part_from-place in
    let if1 = c.loop-place-test.true in
    let starts-part = c.starts_part in
    let loop = c.loop-place in
    let passes = c.requires in
    put_less passes loop.invariant (sym starts-part.ensures ∙ if1) part_from.result part_from.ensures

-- one part more
pub loop-place-preserved : goal.loop-place-preserved
loop-place-preserved c =
    let put-part = c.put_part in
    let part_from = c.part_from-place in
    let if1 = c.loop-place-test.true in
    let starts-part = c.starts_part in
    let loop = c.loop-place in
    let passes = c.requires in
    put_on passes loop.invariant (sym starts-part.ensures ∙ if1) part_from.result part_from.ensures
    put-part.new.draft put-part.ensures

-- the whole sheet
pub returns : goal.returns
unfolding sheet_bytes sheet_rows
returns c =
    let if1 = c.loop-place-test.false in
    let starts-part = c.starts_part in
    let loop = c.loop-place in
    let none = sym starts-part.ensures ∙ if1 in
    wrote_as (sheet_by_part 1 (unit c.args.t.now).parts) (put_end c.requires loop.invariant none)
