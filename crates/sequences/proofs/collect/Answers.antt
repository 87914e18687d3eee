use Rattle.sequences.proofs.TargetLaws.{offsets_by_heads, heads_more, heads_done}
use Rattle.sequences.specs.Targets.{head_number, of_order}
use Rattle.sequences.proofs.FillLaws.{fill_room, fill_on, fill_end}
use lib.ListN.{length, take}
use native.Mathlib.Omega.{arith}
use mathlib.Core.Path.{refl, sym, ap}
use mathlib.Core.List.{List, ◌++◌}
use Prim.Native.Nat.{ℕ}
use Rattle.sequences.proofs.collect.Goals as goal

-- the loop's start
pub loop-i-init : goal.loop-i-init
loop-i-init c =
    let args = c.args in
    let e = offsets_by_heads args.q args.t.now in
    record {
      sized = refl;
      all = ap (λ (l : List ℕ). take args.n args.out.now ++ l) (sym e);
      count = omega (arith, ap length e);
    }

-- markers_of(t, heads, orders, i, q, out, m)
pub markers_of-m-requires : goal.markers_of-m-requires
markers_of-m-requires c =
    let args = c.args in
    let t = args.t.now in
    let q = args.q in
    let pre = c.requires in
    let loop = c.loop-i in
    let loop-test = c.loop-i-test in
    let e = heads_more t args.heads.offsets.now loop.i pre.0 pre.2 loop-test.true q in (
      pre.0,
      pre.1,
      pre.2,
      loop-test.true,
      fill_room (of_order q (head_number t loop.i)) _ loop.invariant e pre.3,
      omega (arith, loop.invariant.sized, pre.4),
      pre.5,
    )

-- the loop's step
pub loop-i-preserved : goal.loop-i-preserved
loop-i-preserved c =
    let args = c.args in
    let t = args.t.now in
    let q = args.q in
    let pre = c.requires in
    let loop = c.loop-i in
    let loop-test = c.loop-i-test in
    let e = heads_more t args.heads.offsets.now loop.i pre.0 pre.2 loop-test.true q in
    fill_on (of_order q (head_number t loop.i)) _ loop.invariant e c.markers_of-m.ensures

-- m
pub shape_of-out : goal.shape_of-out
shape_of-out c = c.loop-i.invariant.sized

-- m
pub returns : goal.returns
returns c =
    let args = c.args in
    let loop = c.loop-i in
    let f = fill_end loop.invariant
    (heads_done args.t.now args.heads.offsets.now loop.i args.q c.requires.2 c.loop-i-test.false) in
    (f.0, f.1, loop.invariant.sized)
