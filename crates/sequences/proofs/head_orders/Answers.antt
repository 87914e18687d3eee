use mathlib.Core.Path.{◌≡◌, refl, sym, ◌∙◌}
use native.Mathlib.Omega.{arith}
use Prim.Native.Nat.{ℕ}
use Rattle.glance.specs.declared.Head.TheVariants.{Target}
use Rattle.sequences.proofs.TargetLaws.{begun, ordered_on}
use Rattle.sequences.proofs.head_orders.Goals.{in-Target, in_default}
use Rattle.sequences.proofs.head_orders.Goals as goal

order_is : {q k : ℕ} → Target q ≡ Target k → q ≡ k
order_is e = cc

-- the loop's start
pub loop-i-init : goal.loop-i-init
loop-i-init c = (omega arith, refl, λ k l. absurd (omega arith))

-- out[i] = order
pub bounds-out-i : goal.bounds-out-i
bounds-out-i c =
    let pre = c.requires in
    let loop = c.loop-i in
    let loop-test = c.loop-i-test in
    omega (arith, loop-test.true, pre.2, loop.invariant.1)

-- the loop's step
pub loop-i-preserved : goal.loop-i-preserved
loop-i-preserved c =
    let args = c.args in
    let t = args.t.now in
    let pre = c.requires in
    let loop = c.loop-i in
    let inv = loop.invariant in
    let inside = c.loop-i-test.true in
    let b = begun t args.heads.now loop.i pre.0 pre.1 inside c.wide.result c.wide.ensures.0 c.glance_at-g.result c.glance_at-g.ensures in
    elim c.match-g.branch [
      | in-Target w ↦ (
        omega (arith, inside),
        c.match-g.auto.out ∙ inv.1,
        rw w.out-is
            (ordered_on t loop.out loop.i w.in-Target.order (omega (arith, inside, pre.2, inv.1)) inv.2 (order_is (sym w.in-Target.is ∙ b.order))),
      )
      | in_default w ↦ absurd (w.in_default.not-Target _ b.order)
    ]

-- the end
pub shape_of-out : goal.shape_of-out
shape_of-out c = c.loop-i.invariant.1

-- the end
pub returns : goal.returns
returns c =
    let loop = c.loop-i in
    (loop.invariant.1, λ k l. loop.invariant.2 k (omega (arith, l, c.loop-i-test.false)))
