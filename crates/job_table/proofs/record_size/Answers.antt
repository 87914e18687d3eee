use mathlib.Core.Path.{ap, subst, ◌∙◌}
use Prim.Native.Nat.{ℕ}
use Rattle.xliff.specs.Desk.{whole_size}
use Rattle.job_table.specs.Sizes.{whole_of, SizeIs}
use Rattle.job_table.proofs.SizeLaws.{short_size}
use Rattle.job_table.proofs.record_size.Goals as goal

-- fewer than four bytes
pub returns-then-t-lt4 : goal.returns-then-t-lt4
returns-then-t-lt4 c =
    let t = c.args.t.now in
    let short = short_size c.mark_of.result t c.if-t-lt4.true c.mark_of.ensures in
    subst (SizeIs c.whole.result) (ap (λ (n : ℕ). whole_of n t) c.fixed_width.ensures ∙ short) c.whole.ensures

-- the width by the mark
pub returns : goal.returns
unfolding whole_size whole_of
returns c =
    subst (SizeIs c.whole-2.result) (ap (λ (n : ℕ). whole_of n c.args.t.now) c.width_of.ensures) c.whole-2.ensures
