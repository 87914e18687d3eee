use mathlib.Core.Path.{sym, ap, ◌∙◌}
use mathlib.Core.Bool.{not}
use lib.Seq.{get_or-drop}
use native.Mathlib.Omega.{arith}
use Rattle.std.specs.Prelude.{is_some}
use Rattle.xliff.specs.Bytes.{among}
use Rattle.xliff.proofs.lists.Tests.{or_none}
use Rattle.codes.specs.Fixed.{fixed_at}
use Rattle.codes.proofs.CodeLaws.{code_there}
use Rattle.codes.proofs.fixed.is_fixed.Goals as goal

-- no code
pub returns-then-is_none : goal.returns-then-is_none
unfolding fixed_at
returns-then-is_none c =
    simp (sym (ap is_some c.code_at.ensures) ∙ c.is_none.ensures ∙ ap not c.if-is_none.true)

-- `at + CAN_REORDER`
pub overflow_add-reorder : goal.overflow_add-reorder
overflow_add-reorder c =
    let there = sym (ap is_some c.code_at.ensures) ∙ c.is_none.ensures ∙ ap not c.if-is_none.false in
    omega (arith, code_there c.args.c.now c.args.at c.requires there)

-- `c[at + CAN_REORDER]`
pub bounds-c-at : goal.bounds-c-at
bounds-c-at c =
    let there = sym (ap is_some c.code_at.ensures) ∙ c.is_none.ensures ∙ ap not c.if-is_none.false in
    omega (arith, code_there c.args.c.now c.args.at c.requires there)

-- a code: its canReorder
pub returns : goal.returns
unfolding fixed_at among
returns c =
    let there = sym (ap is_some c.code_at.ensures) ∙ c.is_none.ensures ∙ ap not c.if-is_none.false in
    simp (there, get_or-drop c.args.at c.args.c.now 11 0, or_none)
