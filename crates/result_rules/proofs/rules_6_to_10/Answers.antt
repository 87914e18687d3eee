use Rattle.result_rules.proofs.BrokenLaws.{accepted_is, refused_is}
use Rattle.result_rules.proofs.rules_6_to_10.Goals as goal

-- Answer::Accepted(_) => None
pub returns-in-Accepted : goal.returns-in-Accepted
returns-in-Accepted c = accepted_is c.args.t.now _ _ c.in-Accepted.ensures

-- Answer::Refused(n, _) => Some(n)
pub returns-in-Refused : goal.returns-in-Refused
returns-in-Refused c = refused_is c.args.t.now c.in-Refused.n _ _ c.in-Refused.ensures
