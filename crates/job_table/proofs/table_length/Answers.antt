use lib.ListN.{drop}
use mathlib.Core.Path.{◌≡◌, sym, ◌∙◌}
use native.Mathlib.Omega.{arith}
use Rattle.xliff.specs.Desk.{is_UE, whole_size}
use Rattle.xliff.proofs.lists.Slices.{tail_is}
use Rattle.job_table.proofs.SizeLaws.{walk_start, walk_on, walk_ends, walk_stuck, walk_over, size_within, none_found, size_found}
use Rattle.job_table.proofs.table_length.Goals as goal

-- the loop's start
pub loop-at-init : goal.loop-at-init
loop-at-init c = (omega arith, walk_start _)

-- at + 2
pub overflow_add-result : goal.overflow_add-result
overflow_add-result c =
    let job = c.args.job.now in
    let loop = c.loop-at in
    let loop-test = c.loop-at-test in
    let is-end = c.is_end in
    let u : is-end.result ≡ is_UE (drop loop.at job) = simp tail_is at is-end.ensures in
    omega (arith, (walk_ends job loop.at loop.invariant.1 loop-test.true (sym u ∙ c.if-is_end.true)).1)

-- return at + 2
pub returns-then-is_end : goal.returns-then-is_end
returns-then-is_end c =
    let job = c.args.job.now in
    let loop = c.loop-at in
    let loop-test = c.loop-at-test in
    let is-end = c.is_end in
    let u : is-end.result ≡ is_UE (drop loop.at job) = simp tail_is at is-end.ensures in
    walk_ends job loop.at loop.invariant.1 loop-test.true (sym u ∙ c.if-is_end.true)

-- return job.len()
pub returns-in_default : goal.returns-in_default
returns-in_default c =
    let job = c.args.job.now in
    let loop = c.loop-at in
    let at-now = loop.at in
    let is-end = c.is_end in
    let if1 = c.if-is_end in
    let record_size = c.record_size in
    let u : is-end.result ≡ is_UE (drop at-now job) = simp tail_is at is-end.ensures in
    let z : whole_size (drop at-now job) ≡ 0 = none_found _ _ (simp tail_is at record_size.ensures) c.in_default.is in
    (walk_stuck job at-now loop.invariant.1 (sym u ∙ if1.false) z, omega arith)

-- at += n
pub overflow_add-at : goal.overflow_add-at
overflow_add-at c =
    let job = c.args.job.now in
    let loop = c.loop-at in
    let record_size = c.record_size in
    let z = size_found _ (whole_size (drop loop.at job)) _ (simp tail_is at record_size.ensures) c.in-Some.is in
    omega (arith, size_within job loop.at c.in-Some.n loop.invariant.0 (sym z.0))

-- the loop ends
pub loop-at-smaller : goal.loop-at-smaller
loop-at-smaller c =
    let job = c.args.job.now in
    let loop = c.loop-at in
    let record_size = c.record_size in
    let z = size_found _ (whole_size (drop loop.at job)) _ (simp tail_is at record_size.ensures) c.in-Some.is in
    omega (arith, size_within job loop.at c.in-Some.n loop.invariant.0 (sym z.0), z.1)

-- the loop's step
pub loop-at-preserved : goal.loop-at-preserved
loop-at-preserved c =
    let job = c.args.job.now in
    let loop = c.loop-at in
    let at-now = loop.at in
    let loop-test = c.loop-at-test in
    let is-end = c.is_end in
    let if1 = c.if-is_end in
    let record_size = c.record_size in
    let u : is-end.result ≡ is_UE (drop at-now job) = simp tail_is at is-end.ensures in
    let z = size_found _ (whole_size (drop at-now job)) _ (simp tail_is at record_size.ensures) c.in-Some.is in (
      size_within job at-now c.in-Some.n loop.invariant.0 (sym z.0),
      walk_on job at-now c.in-Some.n loop.invariant.1 loop-test.true (sym u ∙ if1.false) (sym z.0) z.1,
    )

-- job.len()
pub returns : goal.returns
returns c =
    let job = c.args.job.now in
    let loop = c.loop-at in
    (walk_over job loop.at loop.invariant.1 c.loop-at-test.false, omega arith)
