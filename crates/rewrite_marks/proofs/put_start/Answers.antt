use Rattle.rewrite_marks.proofs.put_start.Goals as goal

-- return writer::put_mark(out, at, b"PO")
pub returns-then-p : goal.returns-then-p
returns-then-p c =
    let if1 = c.if-pair in
    let if2 = c.if-p in
    let put-mark = c.put_mark in
    (put-mark.ensures.0, rw (if1.true, if2.true) put-mark.ensures.1)

-- return writer::put_mark(out, at, b"SC")
pub returns-then-pair : goal.returns-then-pair
returns-then-pair c =
    let if1 = c.if-pair in
    let if2 = c.if-p in
    let put-mark2 = c.put_mark-then-pair in
    (put-mark2.ensures.0, rw (if1.true, if2.false) put-mark2.ensures.1)

-- return writer::put_mark(out, at, b"MO")
pub returns-then-p-2 : goal.returns-then-p-2
returns-then-p-2 c =
    let if1 = c.if-pair in
    let if3 = c.if-p-2 in
    let put-mark3 = c.put_mark-then-p-2 in
    (put-mark3.ensures.0, rw (if1.false, if3.true) put-mark3.ensures.1)

-- writer::put_mark(out, at, b"SM")
pub returns : goal.returns
returns c =
    let if1 = c.if-pair in
    let if3 = c.if-p-2 in
    let put-mark4 = c.put_mark-2 in
    (put-mark4.ensures.0, rw (if1.false, if3.false) put-mark4.ensures.1)
