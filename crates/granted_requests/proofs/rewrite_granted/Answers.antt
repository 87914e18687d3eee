use mathlib.Core.Path.{refl, sym, ◌∙◌}
use mathlib.Core.Logic.{inl, inr}
use Rattle.grants.specs.Grant.{rewrite_granted}
use Rattle.granted_requests.proofs.GrantedLaws.{reviewer_granted}
use borrow.Author.Rules.{rules}
use Rattle.granted_requests.proofs.rewrite_granted.Goals as goal

-- Role::Translator | Role::Other => false
pub returns-in-Translator : goal.returns-in-Translator
unfolding rewrite_granted
returns-in-Translator c =
    elim c.in-Translator.is [ inl e ↦ rw e refl | inr e ↦ rw e refl ]

-- Role::Reviewer => whole_granted(grant, table, side, id)
pub returns-in-Reviewer : goal.returns-in-Reviewer
returns-in-Reviewer c =
    let told = c.in-Reviewer.is in
    c.whole_granted.ensures ∙ sym (reviewer_granted _ _ told)

-- Role::Engineer => true
pub returns-in-Engineer : goal.returns-in-Engineer
unfolding rewrite_granted
returns-in-Engineer c = search rules
