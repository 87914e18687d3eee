use Rattle.overlap.proofs.nine_in.Goals as goal

-- return start
pub returns-then-all_open : goal.returns-then-all_open
returns-then-all_open c =
    let start = c.args.start in
    c.all_open.ensures start c.if-all_open.true
