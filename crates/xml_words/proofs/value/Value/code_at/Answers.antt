use Rattle.xml_words.proofs.CodeLaws.{over_at_end, over_at_fault, point_read}
use Rattle.xml_values.proofs.ValueLaws.{codes_end}
use Rattle.xml_values.proofs.FitLaws.{value_within}
use Rattle.xml_front.specs.Fronts.{told}
use Rattle.xliff.proofs.lists.Slices.{tail_is}
use native.Mathlib.Omega.{arith}
use mathlib.Core.Path.{sym, ap, ◌∙◌}
use Rattle.xml_words.proofs.value.Value.code_at.Goals as goal

-- if self.text.len() <= at { return None; }
pub returns-then-self-at : goal.returns-then-self-at
returns-then-self-at c =
    let args = c.args in
    over_at_end args.self.text.now args.self.quote args.at c.if-self-at.true

-- if first == self.quote { return None; }
pub returns-then-first-self : goal.returns-then-first-self
returns-then-first-self c =
    let args = c.args in
    codes_end args.self.text.now args.self.quote args.at c.if-self-at.false c.if-first-self.true

-- let Ok(front) = .. else { return None; }
pub returns-in_default : goal.returns-in_default
returns-in_default c =
    let args = c.args in
    let front = sym (simp tail_is at c.value_front.ensures) ∙ ap told c.in_default.is in
    over_at_fault args.self.text.now args.self.quote args.at c.if-self-at.false c.if-first-self.false _ front

-- at + 1 + front.more
pub overflow_add-result-2 : goal.overflow_add-result-2
overflow_add-result-2 c =
    let args = c.args in
    let front = sym (simp tail_is at c.value_front.ensures) ∙ ap told c.in-Ok.is in
    omega (arith, value_within args.self.text.now args.at _ _ c.if-self-at.false front)

-- Some(Code { .. })
pub returns : goal.returns
returns c =
    let args = c.args in
    let front = sym (simp tail_is at c.value_front.ensures) ∙ ap told c.in-Ok.is in
    point_read args.self.text.now args.self.quote args.at c.if-self-at.false c.if-first-self.false _ _ _ front
    c.code_of.ensures
