use mathlib.Core.Path.{sym, ◌∙◌}
use lib.ListN.{length}
use borrow.Author.Tests.{not-true, not-false}
use Rattle.outcomes.proofs.OutcomeLaws.{answers_refused}
use Rattle.requests.specs.Requests.{call_with}
use Rattle.grants.specs.Grant.{GrantedCall}
use Rattle.grants.proofs.OutcomeLaws.{granted_own}
use Rattle.granted_parts.specs.Roles.{grant_of}
use Rattle.granted_calls.proofs.CallLaws.{refused_24}
use Rattle.granted_calls.proofs.call_read.Goals as goal

-- return Answer::Refused(24, 0);
pub returns-then-not-granted : goal.returns-then-not-granted
returns-then-not-granted c =
    let args = c.args in
    let table = args.table.now in
    let out = args.out.now in
    let s = args.s.now in
    let grant = grant_of args.grant.role args.grant.positions.now in
    let call : GrantedCall = record { grant = grant; call = call_with (length out) s args.r } in
    let ungranted = sym (c.granted.ensures (length out) s) ∙ not-true _ c.if-not-granted.true-raw in
    answers_refused _ 24 0 out (refused_24 table call c.requires.0 ungranted)

-- operations::perform(table, r, s, out)
pub returns : goal.returns
returns c =
    let args = c.args in
    let table = args.table.now in
    let room = length args.out.now in
    let s = args.s.now in
    let grant = grant_of args.grant.role args.grant.positions.now in
    let call : GrantedCall = record { grant = grant; call = call_with room s args.r } in
    let allowed = sym (c.granted.ensures room s) ∙ not-false _ c.if-not-granted.false-raw in
    rw (granted_own table call allowed) c.perform.ensures
