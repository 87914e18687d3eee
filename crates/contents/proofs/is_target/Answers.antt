use borrow.Author.Tests.{lt-leb}
use mathlib.Core.Path.{◌∙◌}
use native.Mathlib.Omega.{arith}
use Rattle.table.proofs.WidthLaws.{bytes_known}
use Rattle.contents.proofs.BarLaws.{no_target, target_is}
use Rattle.contents.proofs.is_target.Goals as goal

-- by the mark
pub returns-then-s-ge-TARGET_WIDTH : goal.returns-then-s-ge-TARGET_WIDTH
returns-then-s-ge-TARGET_WIDTH c =
    let s = c.args.s.now in
    let known = c.shared_slice_known-1.given in
    target_is s (bytes_known s known) c.if-s-ge-TARGET_WIDTH.true _ c.marked_by.ensures

-- fewer than four bytes
pub returns-else-s-ge-TARGET_WIDTH : goal.returns-else-s-ge-TARGET_WIDTH
returns-else-s-ge-TARGET_WIDTH c =
    let s = c.args.s.now in
    lt-leb _ _ c.if-s-ge-TARGET_WIDTH.false
    ∙ no_target s (bytes_known s c.shared_slice_known-1.given) (λ l. absurd (omega (arith, l, c.if-s-ge-TARGET_WIDTH.false)))
