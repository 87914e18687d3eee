-- What the code's roles mean: one case of the specification for each.
use Rattle.std.specs.Prelude.{ℕ, List}
use Rattle.grants.specs.Grant as grants
use Rattle.grants.specs.Grant.{translator, reviewer, engineer, other_role, Grant}
use Rattle.granted_parts.specs.declared.Role.{Role}
use Rattle.granted_parts.specs.declared.Role.TheVariants.{Translator, Reviewer, Engineer, Other}

abbrev pub role_meaning : Role → grants.Role
role_meaning Translator = translator
role_meaning Reviewer = reviewer
role_meaning Engineer = engineer
role_meaning Other = other_role

-- a role, and the positions as they stand in a slice
abbrev pub grant_of : Role → List ℕ → Grant
grant_of role positions = record { role = role_meaning role; positions = positions }
