use mathlib.Core.Path.{◌≡◌, sym, ap, ◌∙◌}
use native.Mathlib.Omega.{arith}
use Rattle.std.specs.Prelude.{Some, is_some}
use Rattle.std.proofs.Common.{rules}
use Rattle.xliff.proofs.lists.Slices.{tail_is}
use Rattle.codes.specs.Codes.{are_same}
use Rattle.codes.specs.Lost.{same_at}
use Rattle.codes.proofs.CodeLaws.{begins_code, begins_there}
use Rattle.codes.proofs.LostLaws.{not_same}
use Rattle.codes.proofs.kept.same_code.Goals as goal

-- the new record is no code
pub returns-in_default : goal.returns-in_default
unfolding same_at
returns-in_default c = simp (sym c.code_at-2.ensures ∙ c.in_default.is-1)

-- the old one is none
pub returns-in_default-2 : goal.returns-in_default-2
unfolding same_at
returns-in_default-2 c = simp (sym c.code_at.ensures ∙ c.in_default.is-0, not_same)

-- `&old[at..]`
pub slice_bounds-same_fields-count : goal.slice_bounds-same_fields-count
slice_bounds-same_fields-count c = omega (arith, begins_there c.args.old.now c.args.at c.requires.0)

-- the same
pub slice_bounds-same_fields-start : goal.slice_bounds-same_fields-start
slice_bounds-same_fields-start c = omega (arith, begins_there c.args.old.now c.args.at c.requires.0)

-- `&new[to..]`
pub slice_bounds-same_fields-count-2 : goal.slice_bounds-same_fields-count-2
slice_bounds-same_fields-count-2 c = omega (arith, begins_there c.args.new.now c.args.to c.requires.1)

-- the same
pub slice_bounds-same_fields-start-2 : goal.slice_bounds-same_fields-start-2
slice_bounds-same_fields-start-2 c = omega (arith, begins_there c.args.new.now c.args.to c.requires.1)

-- codes have twelve bytes
pub same_fields-requires : goal.same_fields-requires
same_fields-requires c =
    let here = ap is_some (sym c.code_at.ensures ∙ c.in-Some-Some.is-0) in
    let there = ap is_some (sym c.code_at-2.ensures ∙ c.in-Some-Some.is-1) in
    simp tail_is (begins_code _ c.requires.0 here, begins_code _ c.requires.1 there)

-- both are codes: the codes and their fields are compared
pub returns : goal.returns
unfolding same_at
returns c =
    let both = c.in-Some-Some in
    let same : c.eq.result ≡ are_same (Some both.b) (Some both.a) = search rules in
    simp (same, simp tail_is at c.same_fields.ensures, sym c.code_at.ensures ∙ both.is-0, sym c.code_at-2.ensures ∙ both.is-1)
