use Rattle.part_refusals.proofs.IdLaws.{has_record_id, id_fits, has_walked, taken_any, taken_zero}
use Rattle.part_at.proofs.SearchLaws.{searched_start, searched_here, searched_found, searched_on, searched_end}
use Rattle.xliff.specs.Split.{id_taken}
use Rattle.xliff.specs.Parse.{unit}
use native.Mathlib.Omega.{arith}
use mathlib.Core.Path.{sym, ◌∙◌}
use Rattle.part_refusals.proofs.is_taken.Goals as goal

-- return false: if id == 0, return false;
pub returns-then-id-eq0 : goal.returns-then-id-eq0
returns-then-id-eq0 c =
    let args = c.args in
    sym (taken_zero (unit args.t.now).parts args.id c.if-id-eq0.true)

-- the loop's start: while at < t.len()
pub loop-at-init : goal.loop-at-init
loop-at-init c =
    let t = c.args.t.now in
    let id = c.args.id in
    searched_start t (has_record_id id) (id_taken (unit t).parts id) c.requires (taken_any t id c.if-id-eq0.false)

-- has_id(t, at, g.head.is_part() | g.marker, id): has_id(t, at, g.head.is_part() | g.marker, id)
pub has_id-requires : goal.has_id-requires
has_id-requires c =
    let loop = c.loop-at in
    let args = c.args in
    let t = args.t.now in
    let id = args.id in
    let g = c.glance_at-g.result in
    let test = c.loop-at-test.true in
    let v = searched_here t (has_record_id id) (id_taken (unit t).parts id) loop.at g c.glance_at-g.ensures loop.invariant test in
    rw c.is_part.ensures
    (id_fits t loop.at loop.invariant.rs g loop.invariant.there v)

-- return true: return true;
pub returns-then-has_id : goal.returns-then-has_id
returns-then-has_id c =
    let loop = c.loop-at in
    let other = c.if-id-eq0.false in
    let args = c.args in
    let t = args.t.now in
    let id = args.id in
    let told = id_taken (unit t).parts id in
    let g = c.glance_at-g.result in
    let seen = c.glance_at-g.ensures in
    let test = c.loop-at-test.true in
    let v = searched_here t (has_record_id id) told loop.at g seen loop.invariant test in
    let same = has_walked t loop.at loop.invariant.rs g loop.invariant.there v id other in
    sym (searched_found t (has_record_id id) told loop.at g seen loop.invariant test _ ((rw c.is_part.ensures at c.has_id.ensures) ∙ same) c.if-has_id.true)

-- at += g.width: at += g.width;
pub overflow_add-at : goal.overflow_add-at
overflow_add-at c =
    let loop = c.loop-at in
    let args = c.args in
    let t = args.t.now in
    let id = args.id in
    let g = c.glance_at-g.result in
    let test = c.loop-at-test.true in
    let v = searched_here t (has_record_id id) (id_taken (unit t).parts id) loop.at g c.glance_at-g.ensures loop.invariant test in
    omega (arith, v.fits)

-- the loop ends: while at < t.len()
pub loop-at-smaller : goal.loop-at-smaller
loop-at-smaller c =
    let loop = c.loop-at in
    let args = c.args in
    let t = args.t.now in
    let id = args.id in
    let g = c.glance_at-g.result in
    let test = c.loop-at-test.true in
    let v = searched_here t (has_record_id id) (id_taken (unit t).parts id) loop.at g c.glance_at-g.ensures loop.invariant test in
    omega (arith, v.fits, v.moves)

-- the loop's step: while at < t.len()
pub loop-at-preserved : goal.loop-at-preserved
loop-at-preserved c =
    let loop = c.loop-at in
    let other = c.if-id-eq0.false in
    let args = c.args in
    let t = args.t.now in
    let id = args.id in
    let told = id_taken (unit t).parts id in
    let g = c.glance_at-g.result in
    let seen = c.glance_at-g.ensures in
    let test = c.loop-at-test.true in
    let v = searched_here t (has_record_id id) told loop.at g seen loop.invariant test in
    let same = has_walked t loop.at loop.invariant.rs g loop.invariant.there v id other in
    searched_on t (has_record_id id) told loop.at g seen loop.invariant test _ ((rw c.is_part.ensures at c.has_id.ensures) ∙ same) c.if-has_id.false

-- false
pub returns : goal.returns
returns c =
    let loop = c.loop-at in
    let args = c.args in
    let t = args.t.now in
    sym (searched_end t (has_record_id args.id) (id_taken (unit t).parts args.id) loop.at loop.invariant c.loop-at-test.false)
