use mathlib.Core.Path.{sym, ◌∙◌, subst}
use mathlib.Core.List.{[], ◌∷◌, ◌++◌}
use lib.ListN.{length}
use Rattle.xliff.specs.Answer.{Outcome}
use Rattle.outcomes.specs.Outcomes.{Answers}
use Rattle.outcomes.proofs.OutcomeLaws.{answers_refused}
use Rattle.join.proofs.ChainLaws.{first_closed, second_closed, refused_16, ends}
use Rattle.join.proofs.join_pair.Goals as goal

-- return Answer::Refused(12, 0)
pub returns-then-is_closed : goal.returns-then-is_closed
returns-then-is_closed c =
    let args = c.args in
    let out = args.out.now in
    λ n b p q a f s.
    answers_refused _ 12 0 out
    (first_closed args.table.now n (length out) c.requires.0 b p q a f
    (sym (c.is_closed.ensures b p (q ∷ a) s.first) ∙ c.if-is_closed.true))

-- return Answer::Refused(12, 0)
pub returns-then-is_closed-2 : goal.returns-then-is_closed-2
returns-then-is_closed-2 c =
    let args = c.args in
    let out = args.out.now in
    let is_closed = c.is_closed in
    λ n b p q a f s.
    answers_refused _ 12 0 out
    (second_closed args.table.now n (length out) c.requires.0 b p q a f
    (sym (is_closed.ensures b p (q ∷ a) s.first) ∙ c.if-is_closed.false)
    (sym (c.is_closed-2.ensures (b ++ (p ∷ [])) q a s.second) ∙ c.if-is_closed-2.true))

-- return Answer::Refused(16, 0)
pub returns-then-bad_orders : goal.returns-then-bad_orders
returns-then-bad_orders c =
    let args = c.args in
    let out = args.out.now in
    let table = args.table.now in
    let is_closed = c.is_closed in
    let if1 = c.if-is_closed in
    let is-closed2 = c.is_closed-2 in
    λ n b p q a f s.
    answers_refused _ 16 0 out
    (refused_16 table n (length out) c.requires.0 b p q a f
    (sym (is_closed.ensures b p (q ∷ a) s.first) ∙ if1.false)
    (sym (is-closed2.ensures (b ++ (p ∷ [])) q a s.second) ∙ c.if-is_closed-2.false)
    (sym (c.bad_orders.ensures table b p (q ∷ a) (b ++ (p ∷ [])) q a s.first s.second)
    ∙ c.if-bad_orders.true))

-- join_ended(table, x, y, out)
pub returns : goal.returns
returns c =
    let args = c.args in
    let out = args.out.now in
    let table = args.table.now in
    let is_closed = c.is_closed in
    let if1 = c.if-is_closed in
    let is-closed2 = c.is_closed-2 in
    let if2 = c.if-is_closed-2 in
    let bad_orders = c.bad_orders in
    let if3 = c.if-bad_orders in
    let join-ended = c.join_ended in
    λ n b p q a f s.
    subst (λ (o : Outcome). Answers o join-ended.result out join-ended.new.out)
    (sym (ends table n (length out) c.requires.0 b p q a f
    (sym (is_closed.ensures b p (q ∷ a) s.first) ∙ if1.false)
    (sym (is-closed2.ensures (b ++ (p ∷ [])) q a s.second) ∙ if2.false)
    (sym (bad_orders.ensures table b p (q ∷ a) (b ++ (p ∷ [])) q a s.first s.second) ∙ if3.false)))
    (join-ended.ensures b p q a s)
