use mathlib.Core.Path.{◌≡◌, refl, sym, ◌∙◌}
use mathlib.Core.Bool.{false}
use mathlib.Core.List.{[], ◌∷◌}
use native.Mathlib.Omega.{arith}
use Rattle.xliff.specs.Bytes.{'C', 'G', 'M', 'O', 'S', 'T'}
use Rattle.xliff.specs.Parse.{is, mark_of, Mark, SG, TG, MO, MC}
use Rattle.xliff.proofs.lists.Tests.{or_both}
use Rattle.marks.specs.Marks.{only_rest, only_later}
use Rattle.marks.proofs.MarkLaws.{any_found, mark_missed}
use Rattle.table.specs.Records.{record_by}
use Rattle.table.proofs.MarkedLaws.{record_found}
use Rattle.table.proofs.later_of.Goals as goal

-- SG
pub returns-then-marked_by : goal.returns-then-marked_by
unfolding record_by mark_of is
returns-then-marked_by c =
    c.segment_of.ensures
    ∙ record_found only_later 'S' 'G' _ _ (omega arith) (sym c.marked_by.ensures ∙ c.if-marked_by.true)

-- TG
pub returns-then-marked_by-2 : goal.returns-then-marked_by-2
unfolding record_by mark_of is
returns-then-marked_by-2 c =
    c.target_of.ensures
    ∙ record_found only_later 'T' 'G' _ _ (omega arith) (sym c.marked_by-2.ensures ∙ c.if-marked_by-2.true)

-- MO
pub returns-then-marked_by-3 : goal.returns-then-marked_by-3
unfolding record_by mark_of is
returns-then-marked_by-3 c =
    c.annotation_start_of.ensures
    ∙ record_found only_later 'M' 'O' _ _ (omega arith) (sym c.marked_by-3.ensures ∙ c.if-marked_by-3.true)

-- MC
pub returns-then-marked_by-4 : goal.returns-then-marked_by-4
unfolding record_by mark_of is
returns-then-marked_by-4 c =
    c.annotation_end_of.ensures
    ∙ record_found only_later 'M' 'C' _ _ (omega arith) (sym c.marked_by-4.ensures ∙ c.if-marked_by-4.true)

-- none of them
pub returns : goal.returns
unfolding record_by
returns c =
    let args = c.args in
    let t = args.t.now in
    let marks = SG ∷ TG ∷ MO ∷ MC ∷ [] in
    let none : any_found marks t ≡ false =
    or_both _ _ (sym c.marked_by.ensures ∙ c.if-marked_by.false)
    (or_both _ _ (sym c.marked_by-2.ensures ∙ c.if-marked_by-2.false)
    (or_both _ _ (sym c.marked_by-3.ensures ∙ c.if-marked_by-3.false)
    (or_both _ _ (sym c.marked_by-4.ensures ∙ c.if-marked_by-4.false)
    refl))) in
    c.rest_of.ensures
    ∙ mark_missed (λ (m : Mark). record_by (only_rest m) t false) (λ (m : Mark). record_by (only_later m) t false) marks t none refl
