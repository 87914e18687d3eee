use mathlib.Core.Path.{◌≡◌, refl, ◌∙◌}
use denote.Enum.Bare.{sameb}
use Rattle.grants.specs.Grant.{is_engineer}
use Rattle.granted_parts.specs.contracts.Role.{the_type}
use Rattle.granted_parts.specs.declared.Role.{Role}
use Rattle.granted_parts.specs.declared.Role.TheVariants.{Translator, Reviewer, Engineer, Other}
use Rattle.granted_parts.specs.Roles.{role_meaning}
use Rattle.granted_requests.proofs.is_engineer.Goals as goal

same_engineer : (r : Role) → sameb the_type r Engineer ≡ is_engineer (role_meaning r)
unfolding is_engineer
same_engineer Translator = refl
same_engineer Reviewer = refl
same_engineer Engineer = refl
same_engineer Other = refl

-- role == Role::Engineer
pub returns : goal.returns
returns c = c.eq.ensures ∙ same_engineer c.args.role
