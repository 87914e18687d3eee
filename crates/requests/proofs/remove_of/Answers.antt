use native.Mathlib.Omega.{arith}
use Rattle.requests.proofs.RequestLaws.{cut_short, is_whole}
use Rattle.requests.proofs.remove_of.Goals as goal

-- return None
pub returns-then-s-lt-REMOVE_SIZE : goal.returns-then-s-lt-REMOVE_SIZE
returns-then-s-lt-REMOVE_SIZE c = (cut_short c.args.s.now 4 _ c.if-s-lt-REMOVE_SIZE.true, tt)

-- Some(Request::RemoveTarget { .. })
pub returns : goal.returns
returns c =
    let s = c.args.s.now in
    let if1 = c.if-s-lt-REMOVE_SIZE in
    (rw c.number_at.ensures (is_whole s 4 _ if1.false), (omega arith, if1.false))
