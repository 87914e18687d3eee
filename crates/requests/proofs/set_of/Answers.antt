use Prim.Native.Nat.{◌+◌}
use mathlib.Core.Path.{◌∙◌}
use native.Mathlib.Omega.{arith}
use Rattle.xliff.specs.Bytes.{two_at}
use Rattle.requests.proofs.RequestLaws.{cut_short, is_whole, set_short, set_long}
use Rattle.requests.proofs.set_of.Goals as goal

-- return None: not so much as its length
pub returns-then-s-lt-CONTENT_AT : goal.returns-then-s-lt-CONTENT_AT
returns-then-s-lt-CONTENT_AT c = (set_short c.args.s.now _ c.if-s-lt-CONTENT_AT.true, tt)

-- return None: it is cut short
pub returns-then-s-from : goal.returns-then-s-from
returns-then-s-from c =
    let s = c.args.s.now in
    let if1 = c.if-s-lt-CONTENT_AT in (
      cut_short s (7 + two_at s 5) _
          (omega (arith, c.if-s-from.true, c.from.ensures, c.number_at-length.ensures))
          ∙ set_long s _ if1.false,
      tt,
    )

-- Some(Request::SetTarget { .. })
pub returns : goal.returns
returns c =
    let s = c.args.s.now in
    let if1 = c.if-s-lt-CONTENT_AT in
    let number_at = c.number_at-length in
    let wide = c.from in
    let if2 = c.if-s-from in (
      rw (number_at.ensures, c.number_at.ensures)
          (is_whole s (7 + two_at s 5) _ (omega (arith, if2.false, wide.ensures, number_at.ensures)))
          ∙ set_long s _ if1.false,
      (omega arith, omega (arith, if2.false, wide.ensures)),
    )
