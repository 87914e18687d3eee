use mathlib.Core.Path.{refl}
use mathlib.Core.Logic.{inl, inr}
use Rattle.grants.specs.Grant.{part_granted, within}
use Rattle.granted_parts.proofs.Grant.has_part.Goals as goal

-- Role::Translator | Role::Reviewer => is_listed(self.positions, n)
pub returns-in-Translator : goal.returns-in-Translator
unfolding within part_granted
returns-in-Translator c =
    elim c.in-Translator.is [ inl e ↦ rw e c.is_listed.ensures | inr e ↦ rw e c.is_listed.ensures ]

-- Role::Engineer => true
pub returns-in-Engineer : goal.returns-in-Engineer
unfolding within part_granted
returns-in-Engineer c = rw c.in-Engineer.is refl

-- Role::Other => false
pub returns-in-Other : goal.returns-in-Other
unfolding within part_granted
returns-in-Other c = rw c.in-Other.is refl
