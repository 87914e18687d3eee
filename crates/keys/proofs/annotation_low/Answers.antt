use mathlib.Core.Path.{◌≡◌, refl, sym, ◌∙◌}
use mathlib.Core.Bool.{false}
use mathlib.Core.List.{[], ◌∷◌}
use native.Mathlib.Omega.{arith}
use Rattle.xliff.specs.Bytes.{'C', 'E', 'M', 'O', 'S'}
use Rattle.xliff.specs.Parse.{is, mark_of, Mark, MO, MC, SM, EM}
use Rattle.xliff.proofs.lists.Tests.{or_both}
use Rattle.marks.proofs.MarkLaws.{mark_found, any_found, mark_missed}
use Rattle.keys.specs.Marks.{low_of, annotation_low}
use Rattle.keys.proofs.annotation_low.Goals as goal

-- MO
pub returns-then-marked_by : goal.returns-then-marked_by
unfolding low_of mark_of is
returns-then-marked_by c =
    let test = sym c.marked_by.ensures ∙ c.if-marked_by.true in
    (mark_found annotation_low 'M' 'O' _ (omega arith) test, omega arith)

-- MC
pub returns-then-marked_by-2 : goal.returns-then-marked_by-2
unfolding low_of mark_of is
returns-then-marked_by-2 c =
    let test = sym c.marked_by-2.ensures ∙ c.if-marked_by-2.true in
    (mark_found annotation_low 'M' 'C' _ (omega arith) test, omega arith)

-- SM
pub returns-then-marked_by-3 : goal.returns-then-marked_by-3
unfolding low_of mark_of is
returns-then-marked_by-3 c =
    let test = sym c.marked_by-3.ensures ∙ c.if-marked_by-3.true in
    (mark_found annotation_low 'S' 'M' _ (omega arith) test, omega arith)

-- EM
pub returns-then-marked_by-4 : goal.returns-then-marked_by-4
unfolding low_of mark_of is
returns-then-marked_by-4 c =
    let test = sym c.marked_by-4.ensures ∙ c.if-marked_by-4.true in
    (mark_found annotation_low 'E' 'M' _ (omega arith) test, omega arith)

-- none of them
pub returns : goal.returns
unfolding low_of
returns c =
    let t = c.args.t.now in
    let marks = MO ∷ MC ∷ SM ∷ EM ∷ [] in
    let none : any_found marks t ≡ false =
    or_both _ _ (sym c.marked_by.ensures ∙ c.if-marked_by.false)
    (or_both _ _ (sym c.marked_by-2.ensures ∙ c.if-marked_by-2.false)
    (or_both _ _ (sym c.marked_by-3.ensures ∙ c.if-marked_by-3.false)
    (or_both _ _ (sym c.marked_by-4.ensures ∙ c.if-marked_by-4.false)
    refl))) in
    (sym (mark_missed annotation_low (λ (m : Mark). 0) marks t none refl), omega arith)
