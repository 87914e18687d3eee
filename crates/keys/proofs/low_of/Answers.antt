use mathlib.Core.Path.{◌≡◌, refl, sym, ◌∙◌}
use mathlib.Core.Bool.{false}
use mathlib.Core.List.{[], ◌∷◌}
use native.Mathlib.Omega.{arith}
use Rattle.xliff.specs.Bytes.{'C', 'E', 'H', 'I', 'O', 'P', 'S'}
use Rattle.xliff.specs.Parse.{is, mark_of, PO, PC, PH, SC, EC, IS, IE}
use Rattle.xliff.proofs.lists.Tests.{or_both}
use Rattle.marks.proofs.MarkLaws.{mark_found, any_found, mark_missed}
use Rattle.keys.specs.Marks.{low_of, annotation_low}
use Rattle.keys.proofs.low_of.Goals as goal

-- PO
pub returns-then-marked_by : goal.returns-then-marked_by
unfolding low_of mark_of is
returns-then-marked_by c =
    let test = sym c.marked_by.ensures ∙ c.if-marked_by.true in
    (mark_found low_of 'P' 'O' _ (omega arith) test, omega arith)

-- PC
pub returns-then-marked_by-2 : goal.returns-then-marked_by-2
unfolding low_of mark_of is
returns-then-marked_by-2 c =
    let test = sym c.marked_by-2.ensures ∙ c.if-marked_by-2.true in
    (mark_found low_of 'P' 'C' _ (omega arith) test, omega arith)

-- PH
pub returns-then-marked_by-3 : goal.returns-then-marked_by-3
unfolding low_of mark_of is
returns-then-marked_by-3 c =
    let test = sym c.marked_by-3.ensures ∙ c.if-marked_by-3.true in
    (mark_found low_of 'P' 'H' _ (omega arith) test, omega arith)

-- SC
pub returns-then-marked_by-4 : goal.returns-then-marked_by-4
unfolding low_of mark_of is
returns-then-marked_by-4 c =
    let test = sym c.marked_by-4.ensures ∙ c.if-marked_by-4.true in
    (mark_found low_of 'S' 'C' _ (omega arith) test, omega arith)

-- EC
pub returns-then-marked_by-5 : goal.returns-then-marked_by-5
unfolding low_of mark_of is
returns-then-marked_by-5 c =
    let test = sym c.marked_by-5.ensures ∙ c.if-marked_by-5.true in
    (mark_found low_of 'E' 'C' _ (omega arith) test, omega arith)

-- IS
pub returns-then-marked_by-6 : goal.returns-then-marked_by-6
unfolding low_of mark_of is
returns-then-marked_by-6 c =
    let test = sym c.marked_by-6.ensures ∙ c.if-marked_by-6.true in
    (mark_found low_of 'I' 'S' _ (omega arith) test, omega arith)

-- IE
pub returns-then-marked_by-7 : goal.returns-then-marked_by-7
unfolding low_of mark_of is
returns-then-marked_by-7 c =
    let test = sym c.marked_by-7.ensures ∙ c.if-marked_by-7.true in
    (mark_found low_of 'I' 'E' _ (omega arith) test, omega arith)

-- none of them
pub returns : goal.returns
unfolding low_of
returns c =
    let t = c.args.t.now in
    let marks = PO ∷ PC ∷ PH ∷ SC ∷ EC ∷ IS ∷ IE ∷ [] in
    let none : any_found marks t ≡ false =
    or_both _ _ (sym c.marked_by.ensures ∙ c.if-marked_by.false)
    (or_both _ _ (sym c.marked_by-2.ensures ∙ c.if-marked_by-2.false)
    (or_both _ _ (sym c.marked_by-3.ensures ∙ c.if-marked_by-3.false)
    (or_both _ _ (sym c.marked_by-4.ensures ∙ c.if-marked_by-4.false)
    (or_both _ _ (sym c.marked_by-5.ensures ∙ c.if-marked_by-5.false)
    (or_both _ _ (sym c.marked_by-6.ensures ∙ c.if-marked_by-6.false)
    (or_both _ _ (sym c.marked_by-7.ensures ∙ c.if-marked_by-7.false)
    refl)))))) in
    let low = c.annotation_low.ensures in
    (low.0 ∙ mark_missed annotation_low low_of marks t none refl, low.1)
