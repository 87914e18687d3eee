use native.Mathlib.Omega.{arith}
use Rattle.requests.proofs.RequestLaws.{cut_short, is_whole}
use Rattle.requests.proofs.join_of.Goals as goal

-- return None
pub returns-then-s-lt-JOIN_SIZE : goal.returns-then-s-lt-JOIN_SIZE
returns-then-s-lt-JOIN_SIZE c = (cut_short c.args.s.now 4 _ c.if-s-lt-JOIN_SIZE.true, tt)

-- Some(Request::Join { .. })
pub returns : goal.returns
returns c =
    let s = c.args.s.now in
    let if1 = c.if-s-lt-JOIN_SIZE in
    (rw c.number_at.ensures (is_whole s 4 _ if1.false), (omega arith, if1.false))
