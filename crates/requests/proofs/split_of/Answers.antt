use native.Mathlib.Omega.{arith}
use Rattle.requests.proofs.RequestLaws.{cut_short, is_whole}
use Rattle.requests.proofs.split_of.Goals as goal

-- return None
pub returns-then-s-lt-SPLIT_SIZE : goal.returns-then-s-lt-SPLIT_SIZE
returns-then-s-lt-SPLIT_SIZE c = (cut_short c.args.s.now 10 _ c.if-s-lt-SPLIT_SIZE.true, tt)

-- Some(Request::Split { .. })
pub returns : goal.returns
returns c =
    let s = c.args.s.now in
    let if1 = c.if-s-lt-SPLIT_SIZE in
    let number_at = c.number_at in (
      rw (
        number_at.ensures,
        c.number_at-2.ensures,
        c.number_at-3.ensures,
        c.number_at-4.ensures,
      ) (is_whole s 10 _ if1.false),
      (omega arith, if1.false),
    )
