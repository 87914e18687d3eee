use mathlib.Core.Path.{sym, ◌∙◌}
use Rattle.requests.proofs.RequestLaws.{request_short, request_split, request_join, request_set, request_remove, request_rewrite, request_other}
use Rattle.requests.proofs.request_of.Goals as goal

-- return None
pub returns-then-s-lt2 : goal.returns-then-s-lt2
returns-then-s-lt2 c = (request_short c.args.s.now c.if-s-lt2.true, tt)

-- return split_of(s)
pub returns-then-marked_by : goal.returns-then-marked_by
returns-then-marked_by c =
    let s = c.args.s.now in
    let if1 = c.if-s-lt2 in (
      c.split_of.ensures.0
          ∙ request_split s if1.false (sym c.marked_by.ensures ∙ c.if-marked_by.true),
      c.split_of.ensures.1,
    )

-- return join_of(s)
pub returns-then-marked_by-2 : goal.returns-then-marked_by-2
returns-then-marked_by-2 c =
    let s = c.args.s.now in
    let if1 = c.if-s-lt2 in
    let marked_by = c.marked_by in
    let if2 = c.if-marked_by in (
      c.join_of.ensures.0
          ∙ request_join s if1.false (sym marked_by.ensures ∙ if2.false)
          (sym c.marked_by-2.ensures ∙ c.if-marked_by-2.true),
      c.join_of.ensures.1,
    )

-- return set_of(s)
pub returns-then-marked_by-3 : goal.returns-then-marked_by-3
returns-then-marked_by-3 c =
    let s = c.args.s.now in
    let if1 = c.if-s-lt2 in
    let marked_by = c.marked_by in
    let if2 = c.if-marked_by in
    let marked-by2 = c.marked_by-2 in
    let if3 = c.if-marked_by-2 in (
      c.set_of.ensures.0
          ∙ request_set s if1.false (sym marked_by.ensures ∙ if2.false) (sym marked-by2.ensures ∙ if3.false)
          (sym c.marked_by-3.ensures ∙ c.if-marked_by-3.true),
      c.set_of.ensures.1,
    )

-- return remove_of(s)
pub returns-then-marked_by-4 : goal.returns-then-marked_by-4
returns-then-marked_by-4 c =
    let s = c.args.s.now in
    let if1 = c.if-s-lt2 in
    let marked_by = c.marked_by in
    let if2 = c.if-marked_by in
    let marked-by2 = c.marked_by-2 in
    let if3 = c.if-marked_by-2 in
    let marked-by3 = c.marked_by-3 in
    let if4 = c.if-marked_by-3 in (
      c.remove_of.ensures.0
          ∙ request_remove s if1.false (sym marked_by.ensures ∙ if2.false)
          (sym marked-by2.ensures ∙ if3.false) (sym marked-by3.ensures ∙ if4.false)
          (sym c.marked_by-4.ensures ∙ c.if-marked_by-4.true),
      c.remove_of.ensures.1,
    )

-- return rewrite_of(s)
pub returns-then-marked_by-5 : goal.returns-then-marked_by-5
returns-then-marked_by-5 c =
    let s = c.args.s.now in
    let if1 = c.if-s-lt2 in
    let marked_by = c.marked_by in
    let if2 = c.if-marked_by in
    let marked-by2 = c.marked_by-2 in
    let if3 = c.if-marked_by-2 in
    let marked-by3 = c.marked_by-3 in
    let if4 = c.if-marked_by-3 in
    let marked-by4 = c.marked_by-4 in
    let if5 = c.if-marked_by-4 in (
      c.rewrite_of.ensures.0
          ∙ request_rewrite s if1.false (sym marked_by.ensures ∙ if2.false)
          (sym marked-by2.ensures ∙ if3.false) (sym marked-by3.ensures ∙ if4.false)
          (sym marked-by4.ensures ∙ if5.false)
          (sym c.marked_by-5.ensures ∙ c.if-marked_by-5.true),
      c.rewrite_of.ensures.1,
    )

-- None
pub returns : goal.returns
returns c =
    let s = c.args.s.now in
    let if1 = c.if-s-lt2 in
    let marked_by = c.marked_by in
    let if2 = c.if-marked_by in
    let marked-by2 = c.marked_by-2 in
    let if3 = c.if-marked_by-2 in
    let marked-by3 = c.marked_by-3 in
    let if4 = c.if-marked_by-3 in
    let marked-by4 = c.marked_by-4 in
    let if5 = c.if-marked_by-4 in (
      request_other s if1.false (sym marked_by.ensures ∙ if2.false) (sym marked-by2.ensures ∙ if3.false)
          (sym marked-by3.ensures ∙ if4.false) (sym marked-by4.ensures ∙ if5.false)
          (sym c.marked_by-5.ensures ∙ c.if-marked_by-5.false),
      tt,
    )
