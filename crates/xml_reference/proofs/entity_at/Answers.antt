use mathlib.Core.Path.{sym, ap, ◌∙◌}
use mathlib.Core.Bool.{Bool, cond}
use mathlib.Core.List.{[]}
use Rattle.xml.specs.Words.{Words·all}
use Rattle.xml.specs.Characters.{cut, wrong, only_name, entity}
use Rattle.xml_reference.specs.References.{entities_else}
use Rattle.xml_reference.proofs.entity_at.Goals as goal

-- Some(front) => Ok(front)
pub returns-in-Some : goal.returns-in-Some
unfolding entity entities_else Words·all
returns-in-Some c =
    let first = rw c.in-Some.is at c.entity_of.ensures in
    sym (first (cond (only_name [] c.args.text.now) cut wrong))

-- None if is_only_name(text) => Err(Flaw::Cut)
pub returns-in-None : goal.returns-in-None
unfolding entity entities_else Words·all
returns-in-None c =
    let none = rw c.in-None.is at c.entity_of.ensures in
    sym
    (none (cond (only_name [] c.args.text.now) cut wrong)
    ∙ ap (λ (b : Bool). cond b cut wrong) (sym c.is_only_name.ensures ∙ c.if-is_only_name.true))

-- None => Err(Flaw::Wrong)
pub returns-in-None-2 : goal.returns-in-None-2
unfolding entity entities_else Words·all
returns-in-None-2 c =
    let none = rw c.in-None.is at c.entity_of.ensures in
    sym
    (none (cond (only_name [] c.args.text.now) cut wrong)
    ∙ ap (λ (b : Bool). cond b cut wrong) (sym c.is_only_name.ensures ∙ c.if-is_only_name.false))
