use mathlib.Core.Path.{refl, sym, ap}
use Prim.Native.Nat.{ℕ, ◌-◌}
use lib.ListN.{length-drop}
use native.Mathlib.Omega.{arith}
use Rattle.xliff.proofs.lists.Slices.{tail_is}
use Rattle.job.proofs.StepLaws.{printed_start, printed_on, printed_stop, printed_end}
use Rattle.job.proofs.put_requests.Goals as goal

-- the loop's start
pub loop-at-init : goal.loop-at-init
loop-at-init c =
    let args = c.args in
    let pre = c.requires in (
      pre.0,
      pre.1,
      omega arith,
      printed_start args.job.now args.table.now args.n args.out.now,
    )

-- the loop's step
pub loop-at-preserved : goal.loop-at-preserved
loop-at-preserved c =
    let args = c.args in
    let job = args.job.now in
    let loop = c.loop-at in
    let at-now = loop.at in
    let inv = loop.invariant in
    let loop-test = c.loop-at-test in
    let answer-request = c.answer_request-step in
    let size_of = c.size-at in
    let e = simp tail_is at c.request_of.ensures in
    let z = rw c.in-Some.is at e in
    let w = rw (tail_is at-now job) at answer-request.ensures in (
      omega (arith, z.1.1, size_of.ensures, length-drop at-now job, inv.0),
      w.fits,
      omega (arith, w.short, z.1.0, size_of.ensures, inv.2),
      printed_on job args.table.now args.n args.out.now loop.out loop.table at-now loop.m
          loop.k _ (ap (λ (l : ℕ). l - loop.k) (sym c.told-out))
          (omega (arith, inv.2, inv.0, c.requires.2, c.told-out)) inv.3 _
          answer-request.new.table answer-request.new.out _ _ size_of.result size_of.ensures
          loop-test.true z.1.0 z.0 w.prints w.wrote w.leaves,
    )

-- return k + put_unreadable(&mut out[k..], at, &table[..m])
pub returns-in_default : goal.returns-in_default
returns-in_default c =
    let args = c.args in
    let loop = c.loop-at in
    let inv = loop.invariant in
    let put-unreadable = c.put_unreadable in
    let e = simp tail_is at c.request_of.ensures in
    let z = rw c.in_default.is at e in
    printed_stop args.job.now args.table.now args.n args.out.now loop.out loop.table loop.at
    loop.m loop.k _ (ap (λ (l : ℕ). l - loop.k) (sym c.told-out))
    (omega (arith, inv.2, inv.0, c.requires.2, c.told-out)) inv.3 put-unreadable.new.out
    put-unreadable.result _ put-unreadable.ensures.0 put-unreadable.ensures.1
    c.loop-at-test.true z.0 refl

-- k + lines::put_table(&mut out[k..], &table[..m])
pub returns : goal.returns
returns c =
    let args = c.args in
    let loop = c.loop-at in
    let inv = loop.invariant in
    let put-table = c.put_table in
    printed_end args.job.now args.table.now args.n args.out.now loop.out loop.table loop.at
    loop.m loop.k _ (ap (λ (l : ℕ). l - loop.k) (sym c.told-out))
    (omega (arith, inv.2, inv.0, c.requires.2, c.told-out)) inv.3 put-table.new.out
    put-table.result _ put-table.ensures.0 put-table.ensures.1 c.loop-at-test.false refl
