use mathlib.Core.Path.{◌≡◌, refl, sym, ◌∙◌}
use mathlib.Core.Bool.{false}
use mathlib.Core.List.{[], ◌∷◌}
use native.Mathlib.Omega.{arith}
use Rattle.xliff.specs.Bytes.{'C', 'E', 'G', 'I', 'M', 'N', 'P', 'S', 'U'}
use Rattle.xliff.specs.Parse.{is, mark_of, Mark, unknown, SC, EC, SM, EM, IG, CP, IS, IE, UN, UE}
use Rattle.xliff.proofs.lists.Tests.{or_both}
use Rattle.marks.specs.Marks.{only_rest}
use Rattle.marks.proofs.MarkLaws.{any_found, mark_missed}
use Rattle.table.specs.Records.{record_by}
use Rattle.table.proofs.MarkedLaws.{record_found}
use Rattle.table.proofs.rest_of.Goals as goal

-- SC
pub returns-then-marked_by : goal.returns-then-marked_by
unfolding record_by mark_of is
returns-then-marked_by c =
    c.pair_of.ensures
    ∙ record_found only_rest 'S' 'C' _ _ (omega arith) (sym c.marked_by.ensures ∙ c.if-marked_by.true)

-- EC
pub returns-then-marked_by-2 : goal.returns-then-marked_by-2
unfolding record_by mark_of is
returns-then-marked_by-2 c =
    c.pair_of-then-marked_by-2.ensures
    ∙ record_found only_rest 'E' 'C' _ _ (omega arith) (sym c.marked_by-2.ensures ∙ c.if-marked_by-2.true)

-- SM
pub returns-then-marked_by-3 : goal.returns-then-marked_by-3
unfolding record_by mark_of is
returns-then-marked_by-3 c =
    c.annotation_start_of.ensures
    ∙ record_found only_rest 'S' 'M' _ _ (omega arith) (sym c.marked_by-3.ensures ∙ c.if-marked_by-3.true)

-- EM
pub returns-then-marked_by-4 : goal.returns-then-marked_by-4
unfolding record_by mark_of is
returns-then-marked_by-4 c =
    c.annotation_end_of.ensures
    ∙ record_found only_rest 'E' 'M' _ _ (omega arith) (sym c.marked_by-4.ensures ∙ c.if-marked_by-4.true)

-- IG
pub returns-then-marked_by-5 : goal.returns-then-marked_by-5
unfolding record_by mark_of is
returns-then-marked_by-5 c =
    c.ignorable_of.ensures
    ∙ record_found only_rest 'I' 'G' _ _ (omega arith) (sym c.marked_by-5.ensures ∙ c.if-marked_by-5.true)

-- CP
pub returns-then-marked_by-6 : goal.returns-then-marked_by-6
unfolding record_by mark_of is
returns-then-marked_by-6 c =
    c.character_of.ensures
    ∙ record_found only_rest 'C' 'P' _ _ (omega arith) (sym c.marked_by-6.ensures ∙ c.if-marked_by-6.true)

-- IS
pub returns-then-marked_by-7 : goal.returns-then-marked_by-7
unfolding record_by mark_of is
returns-then-marked_by-7 c =
    c.isolated_of.ensures
    ∙ record_found only_rest 'I' 'S' _ _ (omega arith) (sym c.marked_by-7.ensures ∙ c.if-marked_by-7.true)

-- IE
pub returns-then-marked_by-8 : goal.returns-then-marked_by-8
unfolding record_by mark_of is
returns-then-marked_by-8 c =
    c.isolated_of-then-marked_by-8.ensures
    ∙ record_found only_rest 'I' 'E' _ _ (omega arith) (sym c.marked_by-8.ensures ∙ c.if-marked_by-8.true)

-- UN
pub returns-then-marked_by-9 : goal.returns-then-marked_by-9
unfolding record_by mark_of is
returns-then-marked_by-9 c =
    c.unit_of.ensures
    ∙ record_found only_rest 'U' 'N' _ _ (omega arith) (sym c.marked_by-9.ensures ∙ c.if-marked_by-9.true)

-- UE
pub returns-then-marked_by-10 : goal.returns-then-marked_by-10
unfolding record_by mark_of is
returns-then-marked_by-10 c =
    record_found only_rest 'U' 'E' _ _ (omega arith) (sym c.marked_by-10.ensures ∙ c.if-marked_by-10.true)

-- none of them
pub returns : goal.returns
unfolding record_by
returns c =
    let args = c.args in
    let t = args.t.now in
    let marks = SC ∷ EC ∷ SM ∷ EM ∷ IG ∷ CP ∷ IS ∷ IE ∷ UN ∷ UE ∷ [] in
    let none : any_found marks t ≡ false =
    or_both _ _ (sym c.marked_by.ensures ∙ c.if-marked_by.false)
    (or_both _ _ (sym c.marked_by-2.ensures ∙ c.if-marked_by-2.false)
    (or_both _ _ (sym c.marked_by-3.ensures ∙ c.if-marked_by-3.false)
    (or_both _ _ (sym c.marked_by-4.ensures ∙ c.if-marked_by-4.false)
    (or_both _ _ (sym c.marked_by-5.ensures ∙ c.if-marked_by-5.false)
    (or_both _ _ (sym c.marked_by-6.ensures ∙ c.if-marked_by-6.false)
    (or_both _ _ (sym c.marked_by-7.ensures ∙ c.if-marked_by-7.false)
    (or_both _ _ (sym c.marked_by-8.ensures ∙ c.if-marked_by-8.false)
    (or_both _ _ (sym c.marked_by-9.ensures ∙ c.if-marked_by-9.false)
    (or_both _ _ (sym c.marked_by-10.ensures ∙ c.if-marked_by-10.false)
    refl))))))))) in
    sym (mark_missed (λ (m : Mark). record_by (only_rest m) t false) (λ (m : Mark). record_by unknown t false) marks t none refl)
