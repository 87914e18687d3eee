use native.Mathlib.Omega.{arith}
use Rattle.walk.specs.Kept.{InContent}
use Rattle.walk.proofs.RecordLaws.{upto_start}
use Rattle.walk.proofs.WalkLaws.{rest_start}
use Rattle.joined_content.proofs.JoinLaws.{Behind, behind, behind_fits, upto_next, upto_last}
use Rattle.joined_content.proofs.last_of.Goals as goal

-- before the first record
pub loop-next-init : goal.loop-next-init
loop-next-init c =
    let args = c.args in
    let pre = c.requires in
    let width_at = c.width_at-next in
    let c₀ = args.c.now in
    let (rs, o) = pre.0 in
    let b : Behind c₀ 0 width_at.result = record { width = width_at.result; offset = omega arith; read = width_at.ensures } in (
      pre.1,
      (behind_fits c₀ rs 0 width_at.result pre.1 b (upto_start InContent c₀ rs (rest_start c₀ rs o))).1,
      b,
      λ rs o. upto_start InContent c₀ rs (rest_start c₀ rs o),
    )

-- behind the next record
pub overflow_add-next : goal.overflow_add-next
overflow_add-next c =
    let args = c.args in
    let pre = c.requires in
    let loop = c.loop-next in
    let loop-test = c.loop-next-test.true in
    let width-at2 = c.width_at in
    let c₀ = args.c.now in
    let inv = loop.invariant in
    let (rs, o) = pre.0 in
    let b = behind c₀ loop.next width-at2.result width-at2.ensures in
    omega (arith, (behind_fits c₀ rs loop.next _ loop-test b (upto_next c₀ rs loop.at loop.next inv.0 inv.2 (inv.3 rs o))).1)

-- the walk goes on
pub loop-next-smaller : goal.loop-next-smaller
loop-next-smaller c =
    let args = c.args in
    let pre = c.requires in
    let loop = c.loop-next in
    let loop-test = c.loop-next-test.true in
    let width-at2 = c.width_at in
    let c₀ = args.c.now in
    let inv = loop.invariant in
    let (rs, o) = pre.0 in
    let b = behind c₀ loop.next width-at2.result width-at2.ensures in
    let fits = behind_fits c₀ rs loop.next _ loop-test b (upto_next c₀ rs loop.at loop.next inv.0 inv.2 (inv.3 rs o)) in
    omega (arith, fits.0, fits.1)

-- at the next record
pub loop-next-preserved : goal.loop-next-preserved
loop-next-preserved c =
    let args = c.args in
    let pre = c.requires in
    let loop = c.loop-next in
    let loop-test = c.loop-next-test.true in
    let width-at2 = c.width_at in
    let c₀ = args.c.now in
    let inv = loop.invariant in
    let (rs, o) = pre.0 in
    let b = behind c₀ loop.next width-at2.result width-at2.ensures in (
      loop-test,
      (behind_fits c₀ rs loop.next _ loop-test b (upto_next c₀ rs loop.at loop.next inv.0 inv.2 (inv.3 rs o))).1,
      b,
      λ rs o. upto_next c₀ rs loop.at loop.next inv.0 inv.2 (inv.3 rs o),
    )

-- it is the last
pub returns : goal.returns
returns c =
    let args = c.args in
    let loop = c.loop-next in
    let inv = loop.invariant in
    λ rs o. upto_last args.c.now rs loop.at loop.next inv.0 inv.2 (inv.3 rs o) (omega arith)
