use mathlib.Core.Path.{sym, ◌∙◌}
use lib.ListN.{length}
use borrow.Author.Tests.{eq-eqb, ne_eqb}
use Rattle.outcomes.proofs.OutcomeLaws.{answers_refused, checked_none, refused_some}
use Rattle.granted_parts.specs.Roles.{grant_of}
use Rattle.granted_calls.proofs.CallLaws.{refused_table, unreadable, not_alone, one_request, read_size}
use Rattle.granted_calls.proofs.granted_call.Goals as goal

-- Answer::Refused(k, at) => return Answer::Refused(k, at)
pub returns-in-Refused : goal.returns-in-Refused
returns-in-Refused c =
    let args = c.args in
    let table = args.table.now in
    let out = args.out.now in
    let grant = grant_of args.role args.positions.now in
    let refused = refused_some table _ _ (rw c.in-Refused.is at c.check.ensures) in
    answers_refused _ _ _ out (refused_table grant table args.request.now (length out) _ _ refused)

-- let Some(r) = requests::request_of(request) else { return Answer::Refused(2, 0); }
pub returns-in_default : goal.returns-in_default
returns-in_default c =
    let args = c.args in
    let read = c.request_of in
    let table = args.table.now in
    let out = args.out.now in
    let passed = checked_none table c.check.result _ c.check.ensures c.in-Accepted.is in
    answers_refused _ 2 0 out
    (unreadable (grant_of args.role args.positions.now) table args.request.now (length out) passed
    read.result read.ensures.0 c.in_default.is)

-- return call_read(Grant { role, positions }, table, r, request, out)
pub call_read-requires : goal.call_read-requires
call_read-requires c =
    let read = c.request_of in (
      checked_none c.args.table.now c.check.result _ c.check.ensures c.in-Accepted.is,
      read_size c.args.request.now read.result _ c.in-Some.is read.ensures.1,
    )

-- return call_read(Grant { role, positions }, table, r, request, out), for a request that stands alone
pub returns-then-size-request : goal.returns-then-size-request
returns-then-size-request c =
    let args = c.args in
    let read = c.request_of in
    let table = args.table.now in
    let passed = checked_none table c.check.result _ c.check.ensures c.in-Accepted.is in
    let whole = eq-eqb _ _ (sym c.size.ensures ∙ c.if-size-request.true) in
    rw (one_request (grant_of args.role args.positions.now) table args.request.now (length args.out.now) passed
    read.result read.ensures.0 _ c.in-Some.is whole)
    c.call_read.ensures

-- Answer::Refused(2, 0), for a request with bytes behind it
pub returns : goal.returns
returns c =
    let args = c.args in
    let read = c.request_of in
    let table = args.table.now in
    let out = args.out.now in
    let passed = checked_none table c.check.result _ c.check.ensures c.in-Accepted.is in
    let longer = ne_eqb _ _ (λ e. c.if-size-request.false (c.size.ensures ∙ e)) in
    answers_refused _ 2 0 out
    (not_alone (grant_of args.role args.positions.now) table args.request.now (length out) passed
    read.result read.ensures.0 _ c.in-Some.is longer)
