use native.Mathlib.Omega.{arith}
use mathlib.Core.Path.{sym, ◌∙◌}
use Rattle.xliff.specs.Parse.{unit}
use Rattle.draft.proofs.DraftLaws.{wrote_as}
use Rattle.granted_parts.specs.Roles.{grant_of}
use Rattle.part_texts.proofs.WalkLaws.{put_start, put_end, put_from, put_few, put_stands, put_less, put_on}
use Rattle.granted_view.proofs.WalkLaws.{shown_part, view_by_part, shown_as_within}
use Rattle.granted_view.proofs.put_parts.Goals as goal

-- before the first part
pub loop-role-init : goal.loop-role-init
loop-role-init c =
    let args = c.args in
    let pre = c.requires in
    let grant = grant_of args.role args.positions.now in
    put_start (shown_part grant) args.t.now args.draft.now pre

-- let place = part_at::part_from(t, at)
pub part_from-place-requires : goal.part_from-place-requires
part_from-place-requires c =
    let if1 = c.loop-role-test.true in
    let starts-part = c.starts_part in
    let loop = c.loop-role in
    let passes = c.requires in
    put_from passes loop.invariant (sym starts-part.ensures ∙ if1)

-- put_part(draft, t, place, inside)
pub put_part-requires : goal.put_part-requires
put_part-requires c =
    let part_from = c.part_from-place in
    let if1 = c.loop-role-test.true in
    let starts-part = c.starts_part in
    let loop = c.loop-role in
    let passes = c.requires in
    let is = sym starts-part.ensures ∙ if1 in
    put_stands passes loop.invariant is part_from.result part_from.ensures

-- n += 1
pub overflow_add-n : goal.overflow_add-n
overflow_add-n c =
    let if1 = c.loop-role-test.true in
    let starts-part = c.starts_part in
    let loop = c.loop-role in
    let passes = c.requires in
    omega (arith, put_few passes loop.invariant (sym starts-part.ensures ∙ if1))

-- at = place.end
pub loop-role-smaller : goal.loop-role-smaller
loop-role-smaller c =
    let part_from = c.part_from-place in
    let if1 = c.loop-role-test.true in
    let starts-part = c.starts_part in
    let loop = c.loop-role in
    let passes = c.requires in
    let is = sym starts-part.ensures ∙ if1 in
    put_less passes loop.invariant is part_from.result part_from.ensures

-- one part more
pub loop-role-preserved : goal.loop-role-preserved
loop-role-preserved c =
    let put-part = c.put_part in
    let within = c.has_part-inside in
    let part_from = c.part_from-place in
    let if1 = c.loop-role-test.true in
    let starts-part = c.starts_part in
    let loop = c.loop-role in
    let grant = grant_of c.args.role c.args.positions.now in
    let is = sym starts-part.ensures ∙ if1 in
    put_on c.requires loop.invariant is part_from.result part_from.ensures put-part.new.draft
    (shown_as_within grant loop.n within.result within.ensures put-part.ensures)

-- all parts
pub returns : goal.returns
returns c =
    let if1 = c.loop-role-test.false in
    let starts-part = c.starts_part in
    let loop = c.loop-role in
    let args = c.args in
    let grant = grant_of args.role args.positions.now in
    let none = sym starts-part.ensures ∙ if1 in
    wrote_as (view_by_part grant 1 (unit args.t.now).parts) (put_end c.requires loop.invariant none)
