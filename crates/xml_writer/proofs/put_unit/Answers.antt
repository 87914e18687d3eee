use Prim.Native.Nat.{ℕ, ◌+◌}
use mathlib.Core.Path.{sym, subst}
use native.Mathlib.Omega.{arith}
use Rattle.xml_writer.proofs.LoopLaws.{Told, told_start, told_stands, told_moves, told_fits, told_on, told_end}
use Rattle.xml_writer.proofs.put_unit.Goals as goal

-- before the first record
pub loop-at-init : goal.loop-at-init
loop-at-init c =
    let args = c.args in
    let pre = c.requires in
    told_start args.t.now args.draft.now pre

-- put_read(draft, t, at, within, r)
pub put_read-requires : goal.put_read-requires
put_read-requires c =
    let known_at_lem = c.known_at-r in
    let loop-test = c.loop-at-test.true in
    let loop = c.loop-at in
    told_stands c.args.t.now _ loop.at loop.within _ loop.invariant loop-test known_at_lem.result known_at_lem.ensures

-- at += syntax::width_of(r)
pub overflow_add-at : goal.overflow_add-at
overflow_add-at c =
    let width_of_lem = c.width_of-at in
    let known_at_lem = c.known_at-r in
    let loop-test = c.loop-at-test.true in
    let loop = c.loop-at in
    let args = c.args in
    omega (
      arith,
      width_of_lem.ensures,
      told_fits args.t.now _ loop.at loop.within _ loop.invariant loop-test known_at_lem.result known_at_lem.ensures,
    )

-- the walk goes on
pub loop-at-smaller : goal.loop-at-smaller
loop-at-smaller c =
    let width_of_lem = c.width_of-at in
    let known_at_lem = c.known_at-r in
    let loop-test = c.loop-at-test.true in
    let loop = c.loop-at in
    let args = c.args in
    omega (
      arith,
      width_of_lem.ensures,
      told_fits args.t.now _ loop.at loop.within _ loop.invariant loop-test known_at_lem.result known_at_lem.ensures,
      told_moves args.t.now _ loop.at loop.within _ loop.invariant loop-test known_at_lem.result known_at_lem.ensures,
    )

-- one record more
pub loop-at-preserved : goal.loop-at-preserved
loop-at-preserved c =
    let width_of_lem = c.width_of-at in
    let open_behind = c.open_behind-within in
    let put-read = c.put_read in
    let known_at_lem = c.known_at-r in
    let loop-test = c.loop-at-test.true in
    let loop = c.loop-at in
    let args = c.args in
    let t = args.t.now in
    let begun = args.draft.now in
    let told = told_on t begun loop.at loop.within _ loop.invariant loop-test known_at_lem.result known_at_lem.ensures
    put-read.new.draft open_behind.result put-read.ensures open_behind.ensures in
    subst (λ (n : ℕ). Told t begun (loop.at + n) open_behind.result put-read.new.draft) (sym width_of_lem.ensures) told

-- the whole unit
pub returns : goal.returns
returns c =
    let loop-test = c.loop-at-test.false in
    let loop = c.loop-at in
    let args = c.args in
    told_end args.t.now _ loop.at loop.within _ loop.invariant loop-test
