use borrow.Author.Tests.{eq-eqb, ne_eqb}
use Rattle.rewrite_marks.proofs.put_half.Goals as goal

-- return put_start(out, at, class == 2, p)
pub returns-then-half-eq1 : goal.returns-then-half-eq1
returns-then-half-eq1 c =
    let if1 = c.if-half-eq1 in
    let put_start = c.put_start in
    (put_start.ensures.0, rw (eq-eqb _ _ if1.true) put_start.ensures.1)

-- put_end(out, at, class == 2, p)
pub returns : goal.returns
returns c =
    let if1 = c.if-half-eq1 in
    let put_end = c.put_end in
    (put_end.ensures.0, rw (ne_eqb _ _ if1.false) put_end.ensures.1)
