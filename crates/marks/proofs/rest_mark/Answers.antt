use mathlib.Core.Path.{◌≡◌, refl, sym, ◌∙◌}
use mathlib.Core.Bool.{false}
use mathlib.Core.List.{[], ◌∷◌}
use native.Mathlib.Omega.{arith}
use Rattle.xliff.specs.Bytes.{'C', 'E', 'G', 'I', 'M', 'N', 'P', 'S', 'U'}
use Rattle.xliff.specs.Parse.{is, mark_of, SC, EC, SM, EM, IG, CP, IS, IE, UN, UE, Mark, unknown}
use Rattle.xliff.proofs.lists.Tests.{or_both}
use Rattle.marks.specs.Marks.{only_rest}
use Rattle.marks.proofs.MarkLaws.{mark_found, any_found, mark_missed}
use Rattle.marks.proofs.rest_mark.Goals as goal

-- SC
pub returns-then-marked_by : goal.returns-then-marked_by
unfolding mark_of is
returns-then-marked_by c = mark_found only_rest 'S' 'C' _ (omega arith) (sym c.marked_by.ensures ∙ c.if-marked_by.true)

-- EC
pub returns-then-marked_by-2 : goal.returns-then-marked_by-2
unfolding mark_of is
returns-then-marked_by-2 c = mark_found only_rest 'E' 'C' _ (omega arith) (sym c.marked_by-2.ensures ∙ c.if-marked_by-2.true)

-- SM
pub returns-then-marked_by-3 : goal.returns-then-marked_by-3
unfolding mark_of is
returns-then-marked_by-3 c = mark_found only_rest 'S' 'M' _ (omega arith) (sym c.marked_by-3.ensures ∙ c.if-marked_by-3.true)

-- EM
pub returns-then-marked_by-4 : goal.returns-then-marked_by-4
unfolding mark_of is
returns-then-marked_by-4 c = mark_found only_rest 'E' 'M' _ (omega arith) (sym c.marked_by-4.ensures ∙ c.if-marked_by-4.true)

-- IG
pub returns-then-marked_by-5 : goal.returns-then-marked_by-5
unfolding mark_of is
returns-then-marked_by-5 c = mark_found only_rest 'I' 'G' _ (omega arith) (sym c.marked_by-5.ensures ∙ c.if-marked_by-5.true)

-- CP
pub returns-then-marked_by-6 : goal.returns-then-marked_by-6
unfolding mark_of is
returns-then-marked_by-6 c = mark_found only_rest 'C' 'P' _ (omega arith) (sym c.marked_by-6.ensures ∙ c.if-marked_by-6.true)

-- IS
pub returns-then-marked_by-7 : goal.returns-then-marked_by-7
unfolding mark_of is
returns-then-marked_by-7 c = mark_found only_rest 'I' 'S' _ (omega arith) (sym c.marked_by-7.ensures ∙ c.if-marked_by-7.true)

-- IE
pub returns-then-marked_by-8 : goal.returns-then-marked_by-8
unfolding mark_of is
returns-then-marked_by-8 c = mark_found only_rest 'I' 'E' _ (omega arith) (sym c.marked_by-8.ensures ∙ c.if-marked_by-8.true)

-- UN
pub returns-then-marked_by-9 : goal.returns-then-marked_by-9
unfolding mark_of is
returns-then-marked_by-9 c = mark_found only_rest 'U' 'N' _ (omega arith) (sym c.marked_by-9.ensures ∙ c.if-marked_by-9.true)

-- UE
pub returns-then-marked_by-10 : goal.returns-then-marked_by-10
unfolding mark_of is
returns-then-marked_by-10 c = mark_found only_rest 'U' 'E' _ (omega arith) (sym c.marked_by-10.ensures ∙ c.if-marked_by-10.true)

-- none of them
pub returns : goal.returns
returns c =
    let t = c.args.t.now in
    let marks = SC ∷ EC ∷ SM ∷ EM ∷ IG ∷ CP ∷ IS ∷ IE ∷ UN ∷ UE ∷ [] in
    let none : any_found marks t ≡ false =
    or_both _ _ (sym c.marked_by.ensures ∙ c.if-marked_by.false)
    (or_both _ _ (sym c.marked_by-2.ensures ∙ c.if-marked_by-2.false)
    (or_both _ _ (sym c.marked_by-3.ensures ∙ c.if-marked_by-3.false)
    (or_both _ _ (sym c.marked_by-4.ensures ∙ c.if-marked_by-4.false)
    (or_both _ _ (sym c.marked_by-5.ensures ∙ c.if-marked_by-5.false)
    (or_both _ _ (sym c.marked_by-6.ensures ∙ c.if-marked_by-6.false)
    (or_both _ _ (sym c.marked_by-7.ensures ∙ c.if-marked_by-7.false)
    (or_both _ _ (sym c.marked_by-8.ensures ∙ c.if-marked_by-8.false)
    (or_both _ _ (sym c.marked_by-9.ensures ∙ c.if-marked_by-9.false)
    (or_both _ _ (sym c.marked_by-10.ensures ∙ c.if-marked_by-10.false)
    refl))))))))) in
    sym (mark_missed only_rest (λ (m : Mark). unknown) marks t none refl)
