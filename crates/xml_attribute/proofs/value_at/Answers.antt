use Rattle.std.proofs.lemmas.Result.{err_from_is_err_and}
use borrow.Author.Tests.{not-true, not-false}
use Rattle.xml_attribute.proofs.ValueLaws.{value_missing, value_unquoted, value_at_fault, one_read}
use borrow.Author.Rules.{rules}
use Rattle.xml_attribute.proofs.value_at.Goals as goal

-- return Err(Flaw::Cut)
pub returns-then-text-quoted : goal.returns-then-text-quoted
returns-then-text-quoted c =
    let args = c.args in
    let blanks-end = c.blanks_end-quoted in
    value_missing args.text.now args.at blanks-end.result blanks-end.ensures c.if-text-quoted.true _

-- return Err(Flaw::Wrong)
pub returns-then-not-mark : goal.returns-then-not-mark
returns-then-not-mark c =
    let args = c.args in
    let blanks-end = c.blanks_end-quoted in
    value_unquoted args.text.now args.at blanks-end.result blanks-end.ensures
    c.if-text-quoted.false (not-true _ c.if-not-mark.true-raw) _

-- value_end(text, value, mark)?
pub returns-in_err-close : goal.returns-in_err-close
returns-in_err-close c =
    let args = c.args in
    let blanks-end = c.blanks_end-quoted in
    let p = err_from_is_err_and c.from_residual.result c.from_residual.ensures.1 in
    rw (p.1, p.2)
    (value_at_fault args.text.now args.at blanks-end.result blanks-end.ensures c.if-text-quoted.false
    (not-false _ c.if-not-mark.false-raw) _ (rw c.in_err-close.was at c.value_end.ensures) _)

-- Ok(Next::One(AttributeAt { .. }))
pub returns : goal.returns
returns c =
    let args = c.args in
    let blanks-end = c.blanks_end-quoted in
    one_read args.text.now args.at blanks-end.result blanks-end.ensures c.if-text-quoted.false
    (not-false _ c.if-not-mark.false-raw) _ _ _ c.requires.0 (rw c.in_ok-close.was at c.value_end.ensures)
