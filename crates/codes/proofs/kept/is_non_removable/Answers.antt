use mathlib.Core.Path.{sym, ap, ◌∙◌}
use mathlib.Core.Bool.{not}
use lib.Seq.{get_or-drop}
use native.Mathlib.Omega.{arith}
use Rattle.std.specs.Prelude.{is_some}
use Rattle.codes.specs.Lost.{non_removable_at}
use Rattle.codes.proofs.CodeLaws.{code_there}
use Rattle.codes.proofs.kept.is_non_removable.Goals as goal

-- no code
pub returns-then-is_none : goal.returns-then-is_none
unfolding non_removable_at
returns-then-is_none c =
    simp (sym (ap is_some c.code_at.ensures) ∙ c.is_none.ensures ∙ ap not c.if-is_none.true)

-- `at + CAN_DELETE`
pub overflow_add-result : goal.overflow_add-result
overflow_add-result c =
    let there = sym (ap is_some c.code_at.ensures) ∙ c.is_none.ensures ∙ ap not c.if-is_none.false in
    omega (arith, code_there c.args.c.now c.args.at c.requires there)

-- `c[at + CAN_DELETE]`
pub bounds-c-at : goal.bounds-c-at
bounds-c-at c =
    let there = sym (ap is_some c.code_at.ensures) ∙ c.is_none.ensures ∙ ap not c.if-is_none.false in
    omega (arith, code_there c.args.c.now c.args.at c.requires there)

-- a code: its canDelete
pub returns : goal.returns
unfolding non_removable_at
returns c =
    let there = sym (ap is_some c.code_at.ensures) ∙ c.is_none.ensures ∙ ap not c.if-is_none.false in
    simp (there, get_or-drop c.args.at c.args.c.now 9 0)
