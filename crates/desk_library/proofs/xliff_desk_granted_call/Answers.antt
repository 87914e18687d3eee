use lib.ListN.{length}
use Rattle.grants.specs.Requests.{granted_request}
use Rattle.desk_library.proofs.TellLaws.{tells_granted}
use Rattle.desk_library.proofs.xliff_desk_granted_call.Goals as goal

-- tell(a, number, value)
pub returns : goal.returns
returns c =
    let args = c.args in
    let table = args.table.now in
    let request = args.request.now in
    let out = args.out.now in
    tells_granted (λ g. granted_request g table request (length out)) c.role_of.result args.role
    args.positions.now c.role_of.ensures _ _ _ _ out _ c.granted_call-a.ensures c.tell.ensures
