use Rattle.std.proofs.Common.{inl, inr}
use Rattle.grants.specs.Grant.{granted}
use Rattle.granted_requests.proofs.granted.Goals as goal

-- Request::Split { .. } => is_engineer(grant.role)
pub returns-in-Split : goal.returns-in-Split
unfolding granted
returns-in-Split c = λ room s. rw c.in-Split.is c.is_engineer.ensures

-- Request::Join { .. } => is_engineer(grant.role)
pub returns-in-Join : goal.returns-in-Join
unfolding granted
returns-in-Join c = λ room s. rw c.in-Join.is c.is_engineer-in-Join.ensures

-- Request::SetTarget { part, .. } | Request::RemoveTarget { part } => grant.has_part(usize::from(part))
pub returns-in-SetTarget : goal.returns-in-SetTarget
unfolding granted
returns-in-SetTarget c = λ room s.
    let part = rw c.from.ensures at c.has_part.ensures in
    elim c.in-SetTarget.is [ inl (w, k, e) ↦ rw e part | inr e ↦ rw e part ]

-- Request::Rewrite { side, id, .. } => rewrite_granted(grant, table, side, id)
pub returns-in-Rewrite : goal.returns-in-Rewrite
unfolding granted
returns-in-Rewrite c = λ room s. rw c.in-Rewrite.is c.rewrite_granted.ensures
